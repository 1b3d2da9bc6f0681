use Rattle.std.proofs.Common.{◌≡◌, ◌++◌, ◌∷◌, [], arith, length, add-one, sym, ◌∙◌}
use Rattle.std.specs.Prelude.{Err}
use Rattle.std.specs.List.{flat_map}
use Rattle.std.proofs.lemmas.Grind.{common_steps}
use Rattle.record_rows.proofs.Joins.{joined, to_end, head_of, behind, grown, one_more, took, refused}
use Rattle.record_rows.proofs.list.take_items.Goals as goal

pub returns-in_err-item-clause-only : goal.returns-in_err-item-clause-only
returns-in_err-item-clause-only g c xs rest long fits is mem =
    let told : c.from_residual.result ≡ Err c.in_err-item.field-0.0 = grind arith in
    let f = g.T.Spelled.spelling in
    let h = head_of xs c.loop-i._i (omega (arith, long)) in
    let at = (c.loop-i.invariant.only xs rest long fits is).1 in
    let fit : g.T.Coded.fits h.head = rw (sym (h.at h.head)) (fits c.loop-i._i h.head (omega (arith, long))) in
    let e = c.take.ensures.only h.head _ fit (behind f xs c.loop-i._i c.loop-i.at c.args.bytes.now rest h at) in
    refused c.take.result c.from_residual.result (h.head, length (f h.head)) c.in_err-item.field-0.0 c.in_err-item.was told e mem _

pub loop-i-preserved : goal.loop-i-preserved
loop-i-preserved g c =
    let f = g.T.Spelled.spelling in
    let pushed : c.push.new.self.items ≡ c.loop-i.items.items ++ c.in_ok-item.item ∷ [] = grind (arith, common_steps) in
    record {
      number = grind (arith, common_steps, pushed);
      fits = rw pushed (grind (arith, common_steps));
      size = omega (arith, c.in_ok-item.ensures.size, c.loop-i.invariant.size);
      found = rw (pushed, grown f c.loop-i.items.items c.in_ok-item.item) (joined c.loop-i.at c.in_ok-item.size c.args.bytes.now (flat_map f c.loop-i.items.items) (f c.in_ok-item.item) c.loop-i.invariant.found (rw (sym (to_end c.loop-i.at c.args.bytes.now)) c.in_ok-item.ensures.found));
      only = λ xs rest long fits is.
          let h = head_of xs c.loop-i._i (omega (arith, long)) in
          let was = c.loop-i.invariant.only xs rest long fits is in
          let fit : g.T.Coded.fits h.head = rw (sym (h.at h.head)) (fits c.loop-i._i h.head (omega (arith, long))) in
          let at = behind f xs c.loop-i._i c.loop-i.at c.args.bytes.now rest h was.1 in
          let same = took c.take.result (c.in_ok-item.item, c.in_ok-item.size) (h.head, length (f h.head)) c.in_ok-item.was (c.take.ensures.only h.head _ fit at) in
          let more = one_more f xs c.loop-i._i c.loop-i.at c.in_ok-item.size c.args.bytes.now rest c.loop-i.items.items c.in_ok-item.item h was.0 at same in
          (rw add-one (pushed ∙ more.0), rw add-one more.1);
    }
