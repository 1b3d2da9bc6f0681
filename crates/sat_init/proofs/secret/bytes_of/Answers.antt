use Rattle.std.proofs.Common.{◌∙◌}
use Rattle.record_rows.specs.Numbers.{be64}
use Rattle.sat_init.proofs.Drawing.{joined}
use Rattle.sat_init.proofs.secret.bytes_of.Goals as goal

pub returns : goal.returns
unfolding be64
returns c =
    c.copy_from_slice.ensures.after ∙ c.deref.ensures.value
    ∙ joined _ _ _ _ _ _ _ _ _ _ _ _ _ c.new-bytes.ensures.items
    c.in_ok-extend_from_slice.ensures.items c.in_ok-extend_from_slice-2.ensures.items
    c.in_ok-extend_from_slice-3.ensures.items c.in_ok-extend_from_slice-4.ensures.items
    c.to_be_bytes.ensures c.to_be_bytes-2.ensures c.to_be_bytes-3.ensures c.to_be_bytes-4.ensures
