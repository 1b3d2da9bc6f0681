use Rattle.std.proofs.Common.{sym, ap, ◌∙◌}
use Rattle.audit_core.specs.Heard.{place_indexes}
use Rattle.node_asks.proofs.AskLemmas.{all_sent}
use Rattle.node_asks.proofs.SpreadLemmas.{pieces-indexes}
use Rattle.node_rounds.proofs.asking.audit.Goals as goal

pub judge-requires-clause-heard : goal.judge-requires-clause-heard
judge-requires-clause-heard g c = c.in_ok-heard.ensures.heard.indexes ∙ sym (pieces-indexes c.args.places.now) ∙ ap place_indexes c.requires.auditable.places_are

pub returns-in-Ok-clause-found : goal.returns-in-Ok-clause-found
returns-in-Ok-clause-found g c =
    let h = c.in_ok-heard.ensures in
    let j = c.in-Ok.ensures in
    record {
      can = c.requires.auditable;
      heard = c.in_ok-heard.heard;
      is_heard = h.heard;
      silent = h.silent;
      asks = h.asks;
      held = h.held;
      scheme_is = j.scheme;
      plan_is = j.plan;
      answers = j.answers;
      missing = j.missing;
      silent_are = j.silent;
    }

pub returns-clause-err : goal.returns-clause-err
returns-clause-err g c = record { asks = all_sent _ _ _ c.in_ok-heard.ensures.asks; held = c.in_ok-heard.ensures.held }
