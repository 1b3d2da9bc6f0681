use Rattle.std.proofs.Common.{◌∙◌, inl, length, refl, sym}
use Rattle.satellite_cli.proofs.WorkerDevices.{came_back, same_devices}
use Rattle.satellite_cli.proofs.Terms.{idle_of, moved_clauses, term_of}
use Rattle.satellite_cli.specs.Serving.{devices_view}
use Rattle.satellite_cli.proofs.serving.serve.Goals as goal

pub returns-in-Ok-serve_term-clause-term : goal.returns-in-Ok-serve_term-clause-term
returns-in-Ok-serve_term-clause-term g c =
    let s = c.in-Ok-serve_term.ensures in
    let made = c.workers_of-workers.ensures in
    let back = c.devices_of.ensures in
    let view = devices_view g.L.Lane.about g.T.Clock.coming g.W.Words.left g.W.Words.faults g.N.Nodes.held g.N.Nodes.asks g.N.Nodes.faults g.I.Ticks.about in
    let before = same_devices g.L.Lane.about g.T.Clock.coming g.W.Words.left g.W.Words.faults g.N.Nodes.held g.N.Nodes.asks g.N.Nodes.faults g.I.Ticks.about
    c.workers_of-workers.result.0.posts c.args.devices.posts _ c.args.devices.audit _ c.args.devices.repair c.args.devices.tally _ made.posts (λ i. (made.audit i).kit) (λ i. (made.repair i).kit) made.tally in
    let after = sym (λ i. view (back i).posts.items (back i).audit (back i).repair (back i).tally) in (
      c.in-Ok.ready.book,
      c.in-Ok.ensures.opened,
      inl (term_of g.K.Keeper.about _ _ _ c.in-Ok.ready.book _ _ c.in-Ok-serve_term.served.ends _ _ _ _ _ _
          c.keys_of-keys.ensures (moved_clauses _ _ _ _ _ _ _ _ _ before after s.clauses) s.spell s.once s.pays s.closed s.keeps s.faults c.in-Ok.ensures.quiet c.finish-status.ensures),
    )

pub returns-in-Err-tools_of-clause-term : goal.returns-in-Err-tools_of-clause-term
returns-in-Err-tools_of-clause-term g c =
    idle_of g.K.Keeper.about
    _ _ _ _ _ c.in-Ok.ready.book _ _ _ _ _ _ _ _ _ c.in-Ok.ensures.opened c.in-Ok.ensures.quiet refl refl c.idle.ensures.idle c.idle.ensures.devices

pub returns-in-Err-serve_term-clause-term : goal.returns-in-Err-serve_term-clause-term
returns-in-Err-serve_term-clause-term g c =
    let same = c.in-Err-serve_term.ensures.err in
    let made = c.workers_of-workers.ensures in
    let back = c.devices_of-devices.ensures ∙ came_back _ _ _ _ _ _ c.args.devices.tally _ _ ((λ i. (same.1 i).posts) ∙ made.posts) ((λ i. (same.1 i).kits.audit.kit) ∙ (λ i. (made.audit i).kit))
    ((λ i. (same.1 i).kits.repair.kit) ∙ (λ i. (made.repair i).kit)) ((λ i. (same.1 i).kits.tally) ∙ made.tally) made.spare in
    let idle = c.idle-in-Err-serve_term.ensures in
    idle_of g.K.Keeper.about
    _ _ _ _ _ c.in-Ok.ready.book _ _ _ _ _ _ _ _ _ c.in-Ok.ensures.opened c.in-Ok.ensures.quiet same.0 (λ i. length (back i).posts.items) idle.idle (idle.devices ∙ back)
