use Rattle.std.proofs.Common.{arith, ◌<◌, ◌≤◌, length, drop, refl, [], ◌∙◌}
use Rattle.node_wire.specs.Readings.{At}
use Rattle.node_wire.specs.Heard.{share, missing, kept, no_answer}
use Rattle.node_wire.specs.declared.head.Says.TheVariants.{NoAnswer, Missing, Kept, Long}
use Rattle.node_wire.proofs.ReadingLemmas.{decided, lacking_full, lacking_short, lacking_open}
use Rattle.node_wire.proofs.reading.Reading.look.Goals as goal

pub returns-in-Some-default-Long-clause-told : goal.returns-in-Some-default-Long-clause-told
returns-in-Some-default-Long-clause-told c =
    let e = rw c.as_slice.ensures.value at c.in-Some-default-Long.ensures in
    λ all x. rw (c.over.ensures.fed, c.over.ensures.over)
    (decided c.args.self.now.question c.args.self.now.bytes.items (drop c.in-Some-default-Long.field-0-0 c.args.self.now.bytes.items) all Long (share []) (e.0.0, e.0.1, e.0.2 ∙ c.in-Some-default-Long.field-0-1-is) x (λ l. refl), (omega arith, omega arith))

pub returns-in-Some-default-Missing-clause-told : goal.returns-in-Some-default-Missing-clause-told
returns-in-Some-default-Missing-clause-told c =
    let e = rw c.as_slice.ensures.value at c.in-Some-default-Missing.ensures in
    λ all x. rw (c.over-in-Some-default-Missing.ensures.fed, c.over-in-Some-default-Missing.ensures.over)
    (decided c.args.self.now.question c.args.self.now.bytes.items (drop c.in-Some-default-Missing.field-0-0 c.args.self.now.bytes.items) all Missing missing (e.0.0, e.0.1, e.0.2 ∙ c.in-Some-default-Missing.field-0-1-is) x (λ l. refl), (omega arith, omega arith))

pub returns-in-Some-default-Kept-clause-told : goal.returns-in-Some-default-Kept-clause-told
returns-in-Some-default-Kept-clause-told c =
    let e = rw c.as_slice.ensures.value at c.in-Some-default-Kept.ensures in
    λ all x. rw (c.over-in-Some-default-Kept.ensures.fed, c.over-in-Some-default-Kept.ensures.over)
    (decided c.args.self.now.question c.args.self.now.bytes.items (drop c.in-Some-default-Kept.field-0-0 c.args.self.now.bytes.items) all Kept kept (e.0.0, e.0.1, e.0.2 ∙ c.in-Some-default-Kept.field-0-1-is) x (λ l. refl), (omega arith, omega arith))

pub returns-in-Some-default-NoAnswer-clause-told : goal.returns-in-Some-default-NoAnswer-clause-told
returns-in-Some-default-NoAnswer-clause-told c =
    let e = rw c.as_slice.ensures.value at c.in-Some-default-NoAnswer.ensures in
    λ all x. rw (c.over-in-Some-default-NoAnswer.ensures.fed, c.over-in-Some-default-NoAnswer.ensures.over)
    (decided c.args.self.now.question c.args.self.now.bytes.items (drop c.in-Some-default-NoAnswer.field-0-0 c.args.self.now.bytes.items) all NoAnswer no_answer (e.0.0, e.0.1, e.0.2 ∙ c.in-Some-default-NoAnswer.field-0-1-is) x (λ l. refl), (omega arith, omega arith))

pub returns-in-None-clause-told : goal.returns-in-None-clause-told
returns-in-None-clause-told c =
    let lacks = rw c.as_slice.ensures.value at c.in-None.ensures in
    let full : 8192 ≤ length c.args.self.now.bytes.items = omega arith in
    λ all x. rw (c.over-in-None.ensures.fed, c.over-in-None.ensures.over) (lacking_full c.args.self.now.question c.args.self.now.bytes.items all lacks full x, (omega arith, omega arith))

pub returns-in-None-2-clause-told : goal.returns-in-None-2-clause-told
returns-in-None-2-clause-told c =
    let bytes = c.args.self.now.bytes.items in
    let lacks = rw c.as_slice.ensures.value at c.in-None.ensures in
    let less : length bytes < 8192 = omega arith in
    let at : At c.args.self.now.question bytes c.args.self.now.stage = rw c.requires.head (lacks, less) in
    λ all x.
    let same = lacking_short c.args.self.now.question bytes all less x in
    (rw same at (lacking_open c.args.self.now.question bytes lacks less), record { at = at; roomy = c.requires.roomy }, same)
