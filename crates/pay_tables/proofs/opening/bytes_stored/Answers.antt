use Rattle.std.proofs.Common.{◌≡◌, ◌^◌, ◌<◌, Some, length, take, ap, sym, ◌∙◌, arith}
use Rattle.std.specs.Prelude.{slice_get}
use Rattle.std.proofs.lemmas.Option.{slice_get-get_or}
use Rattle.sat_base.specs.Scheme.{IsScheme}
use Rattle.machine_step.specs.Stored.{share_of}
use Rattle.machine_step.specs.Tables.{setup_of}
use Rattle.pay_tables.specs.InStep.{IsShort}
use Rattle.pay_tables.proofs.RowFacts.{sum-got}
use Rattle.pay_tables.proofs.Segments.{amount-room}
use Rattle.month_sums.proofs.Counted.{take-most, each-take}
use Rattle.month_sums.proofs.Ready.{each-got}
use Rattle.pay_tables.proofs.opening.bytes_stored.Goals as goal

pub add_segment-requires-clause-room : goal.add_segment-requires-clause-room
add_segment-requires-clause-room c node =
    let scheme = c.args.settings.now.scheme in
    let setup = setup_of c.args.settings.now in
    let segments = c.args.segments.now in
    let i = c.loop-i.i in
    let segment = c.index-segments-i.result in
    let got : slice_get segments i ≡ Some segment = slice_get-get_or segments i segment c.loop-i-test.true ∙ ap Some (sym c.index-segments-i.is) in
    let fits : IsScheme setup.k setup.m setup.o setup.n setup.share = record {
      rebuilds = scheme.rebuilds;
      repairs_in_time = scheme.repairs_in_time;
      wants_more = scheme.wants_more;
      tries_enough = scheme.tries_enough;
      few_pieces = scheme.few_pieces;
      some_bytes = scheme.some_bytes;
      few_bytes = scheme.few_bytes;
    } in
    let few : length (take i segments) < 2 ^ 64 = omega (arith, take-most i segments) in
    amount-room setup fits c.loop-i.stored.rows (take i segments) segment node c.loop-i.invariant (each-take IsShort i segments c.requires) few (each-got IsShort segments i segment c.requires got)

pub loop-i-preserved : goal.loop-i-preserved
loop-i-preserved c node =
    let setup = setup_of c.args.settings.now in
    let segments = c.args.segments.now in
    let i = c.loop-i.i in
    let segment = c.index-segments-i.result in
    let got : slice_get segments i ≡ Some segment = slice_get-get_or segments i segment c.loop-i-test.true ∙ ap Some (sym c.index-segments-i.is) in
    omega (arith, c.in_ok-add_segment.ensures node, c.loop-i.invariant node, sum-got (share_of setup node) segments i segment got)
