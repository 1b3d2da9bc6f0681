use Rattle.sat_term.proofs.workers.part.Goals as goal

pub returns-clause-parted : goal.returns-clause-parted
returns-clause-parted g c = record {
  with_repair = c.split-rest.result.0;
  with_audit = c.split-rest-2.result.0;
  first = c.split-rest.ensures.kept;
  tally_is = c.split-rest.ensures.given;
  second = c.split-rest-2.ensures.kept;
  repair_is = c.split-rest-2.ensures.given;
  third = c.split-lanes.ensures.kept;
  audit_is = c.split-lanes.ensures.given;
  tally_idle = c.split-rest.ensures.none;
  repair_idle = c.split-rest-2.ensures.none;
  audit_idle = c.split-lanes.ensures.none;
}
