use Rattle.std.proofs.Common.{subst}
use Rattle.order_uses.specs.Reading.{AreBytes}
use Rattle.order_uses.proofs.ReadLemmas.{if_found, if_none, if_serial}
use Rattle.order_uses.proofs.stored.read_use.Goals as goal

pub returns-clause-found : goal.returns-clause-found
returns-clause-found c = if_found c.args.key.now c.args.row.now c.use_of.result (subst AreBytes c.as_slice.ensures c.are_bytes.ensures) c.use_of.ensures

pub returns-clause-serial : goal.returns-clause-serial
returns-clause-serial c = if_serial c.args.key.now c.args.row.now c.use_of.result (subst AreBytes c.as_slice.ensures c.are_bytes.ensures) c.use_of.ensures

pub returns-clause-only : goal.returns-clause-only
returns-clause-only c = if_none c.args.key.now c.args.row.now c.use_of.result (subst AreBytes c.as_slice.ensures c.are_bytes.ensures) c.use_of.ensures
