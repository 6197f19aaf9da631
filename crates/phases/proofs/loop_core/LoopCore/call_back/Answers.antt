use Rattle.phases.proofs.Words.{ap, arc_value, begun, Host, import_types, Names, option_map, refl, Setting, setting_of, State, sym, ◌∙◌, ◌≡◌}
use Rattle.phases.proofs.LoopsKeep.{still_upto}
use Rattle.phases.proofs.StepsInSlices.{begins_callback, is_defined}
use Rattle.phases.proofs.loop_core.LoopCore.call_back.Goals as goal

pub invariant_of-host : goal.invariant_of-host
invariant_of-host g c = record {
  opened = still_upto g.B.Shared.calls c.into_parts-linked.result.2.shared _ _ c.begin_callback.ensures c.into_parts-linked.result.2.opened;
}

pub begin-paused-requires-clause-fits : goal.begin-paused-requires-clause-fits
begin-paused-requires-clause-fits g c =
    let keeps = c.into_parts-linked.ensures.keeps in
    let linked = arc_value c.into_parts-linked.result.0 in
    let loaded : c.valid.result.now ≡ linked = c.valid.ensures.same ∙ c.deref-2.ensures in
    let set : setting_of c.into_parts-linked.result.2.setting ≡ c.args.self.setting = c.into_parts-linked.ensures.setting in
    let names : Names linked.contents (import_types (setting_of c.into_parts-linked.result.2.setting).loaded.contents) =
    rw (sym (keeps.same ∙ ap (λ (x : Setting). x.loaded) (sym set)), sym c.deref.ensures) c.imports_are_named.ensures in
    record {
      runs = rw (loaded ∙ keeps.same) c.requires.runs;
      names = rw loaded names;
    }

pub begin-paused-requires-clause-store : goal.begin-paused-requires-clause-store
begin-paused-requires-clause-store g c =
    let keeps = c.into_parts-linked.ensures.keeps in
    let loaded = c.valid.ensures.same ∙ c.deref-2.ensures ∙ keeps.same in
    rw (loaded, c.into_parts-linked.ensures.store) keeps.store

pub begin-paused-requires-clause-typed : goal.begin-paused-requires-clause-typed
begin-paused-requires-clause-typed g c =
    let keeps = c.into_parts-linked.ensures.keeps in
    let loaded = c.valid.ensures.same ∙ c.deref-2.ensures ∙ keeps.same in
    rw c.as_slice.ensures (rw loaded c.requires.fits.takes)

pub begin-paused-requires-clause-defined : goal.begin-paused-requires-clause-defined
begin-paused-requires-clause-defined g c =
    let keeps = c.into_parts-linked.ensures.keeps in
    let loaded = c.valid.ensures.same ∙ c.deref-2.ensures ∙ keeps.same in
    let linked = rw (c.deref-2.ensures ∙ keeps.same) at c.valid.ensures.linked in
    rw loaded (is_defined c.args.self.setting.loaded linked c.args.callback.function c.args.callback.args c.requires.fits.takes c.requires.fits.bare)

pub begin-paused-requires-clause-deep : goal.begin-paused-requires-clause-deep
begin-paused-requires-clause-deep g c =
    let keeps = c.into_parts-linked.ensures.keeps in
    rw (sym c.into_parts-linked.ensures.setting) at keeps.depth

pub invariant_of-result : goal.invariant_of-result
invariant_of-result g c =
    let keeps = c.into_parts-linked.ensures.keeps in
    let linked = arc_value c.into_parts-linked.result.0 in
    let loaded : c.valid.result.now ≡ linked = c.valid.ensures.same ∙ c.deref-2.ensures in
    let callback = c.args.callback in
    let reply = option_map (λ v. v.items) callback.reply in
    let mid = c.args.self.loop in
    let m = c.begin-paused.new.self in
    let set = ap (λ (h : Host g.B.Shared.calls). setting_of h.setting) c.begin-paused.ensures.host ∙ c.into_parts-linked.ensures.setting in
    let stored = c.begin-paused.ensures.store ∙ c.into_parts-linked.ensures.store in
    let state : m.host.state ≡ begun mid.state reply =
    ap (λ (h : Host g.B.Shared.calls). h.state) c.begin-paused.ensures.host ∙ c.begin_callback.ensures
    ∙ ap (λ (s : State). begun s reply) c.into_parts-linked.ensures.state in
    let shared : m.host.shared ≡ mid.shared =
    ap (λ (h : Host g.B.Shared.calls). h.shared) c.begin-paused.ensures.host ∙ c.into_parts-linked.ensures.shared in
    record {
      fits = rw loaded at c.begin-paused.ensures.fits;
      g = c.args.self.setting;
      mid = mid;
      args = callback.args;
      reply = reply;
      callback = begins_callback g.B.Shared.calls linked c.args.self.setting mid keeps m.host m.store set stored c.valid.result.now loaded callback.kind callback.number
          (arc_value m.machine.tables) callback.args reply c.begin-paused.result m.machine.slots m.machine.frames.items (λ i. (state i, shared i)) c.begin-paused.ensures.depth
          (rw (← c.as_slice.ensures) c.begin-paused.ensures.paused);
      unfailed = c.requires.unfailed;
      bare = rw keeps.same (rw c.begin-paused.ensures.function c.requires.fits.bare);
    }

pub returns-clause-come : goal.returns-clause-come
returns-clause-come g c a same leads =
    let keeps = c.into_parts-linked.ensures.keeps in
    let linked = arc_value c.into_parts-linked.result.0 in
    let loaded : c.valid.result.now ≡ linked = c.valid.ensures.same ∙ c.deref-2.ensures in
    let callback = c.args.callback in
    let reply = option_map (λ v. v.items) callback.reply in
    let mid = c.args.self.loop in
    let m = c.begin-paused.new.self in
    let set = ap (λ (h : Host g.B.Shared.calls). setting_of h.setting) c.begin-paused.ensures.host ∙ c.into_parts-linked.ensures.setting ∙ sym same in
    let stored = c.begin-paused.ensures.store ∙ c.into_parts-linked.ensures.store in
    let state : m.host.state ≡ begun mid.state reply =
    ap (λ (h : Host g.B.Shared.calls). h.state) c.begin-paused.ensures.host ∙ c.begin_callback.ensures
    ∙ ap (λ (s : State). begun s reply) c.into_parts-linked.ensures.state in
    let shared : m.host.shared ≡ mid.shared =
    ap (λ (h : Host g.B.Shared.calls). h.shared) c.begin-paused.ensures.host ∙ c.into_parts-linked.ensures.shared in
    record {
      mid = mid;
      args = callback.args;
      reply = reply;
      host = m.host;
      stands = refl;
      callback = begins_callback g.B.Shared.calls linked a.setting mid (rw same keeps) m.host m.store set stored c.valid.result.now loaded callback.kind callback.number
          (arc_value m.machine.tables) callback.args reply c.begin-paused.result m.machine.slots m.machine.frames.items (λ i. (state i, shared i)) c.begin-paused.ensures.depth
          (rw (← c.as_slice.ensures) c.begin-paused.ensures.paused);
      leads = rw c.begin-paused.ensures.function leads;
    }
