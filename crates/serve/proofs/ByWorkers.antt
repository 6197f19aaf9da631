-- The after-work callbacks of a loop in one account of all threads.
use Rattle.serve.proofs.Words.{ap, Contains, EndOffered, Event, GuestCall, HandedOut, HasEnded, inl, inr, IsAfterLast, IsAfterOnce, IsAfterOwn, IsOpening}
use Rattle.serve.proofs.Words.{JointRun, List, Loaded, Loop, refl, Request, same_Some, Seats, Served, Serving, Setting, setting_at, slice_get, slice_get-get_or}
use Rattle.serve.proofs.Words.{Some, Stage, StepDid, Stepped, sym, thread_calls, true, WorkEnd, WorkerView, ℕ, ◌∙◌, ◌∷◌, ◌≡◌}
use Rattle.std.proofs.lemmas.List.Elements.{Contains-append_left}
use Rattle.order.specs.Work.{Done}
use Rattle.phases.specs.Laws.{WasCancelled, AreDue}
use Rattle.phases.specs.Requests.{Open, Answered, Cancelled, Completion, cancellation, end_completion, completion_of}
use Rattle.serve.specs.AfterOnce.{IsGivenOwn, EndsAfterOnce, EndsByWorkers}
use Rattle.serve.proofs.AfterOnce.{history_of, ends_once}
use Rattle.serve.proofs.Offered.{offered_end}

-- an end is no cancellation
ends_apart : (end : WorkEnd) → end_completion end ≡ cancellation → ⊥
ends_apart (Done value bytes) e = let it = ap (λ (c : Completion). c.kind) e in cc
ends_apart _ e = let it = ap (λ (c : Completion). c.kind) e in cc

-- where a list contains something, it stands somewhere
place_of : {X : Type 0} (xs : List X) (x : X) → Contains xs x → (i : ℕ) × (slice_get xs i ≡ Some x)
place_of xs x h = (h.0, slice_get-get_or xs h.0 x h.1 ∙ ap Some h.2)

module _ (g : Setting) (start : Loop Seats) (opens : IsOpening thread_calls g start) (before : List Event) (request : ℕ) (did : StepDid) (made : List GuestCall)
    (given : IsGivenOwn g start before request did made) (kept : WasCancelled request before → ⊥) where
  abbrev q : Request
  q = given.own.request

  -- the reply that the callback is given the end of
  pub record IsAnswered : Type 0 where
    pub end : WorkEnd
    pub told : given.own.completion ≡ end_completion end
    pub offered : Contains before (EndOffered q.order end true)

  never_cancelled : given.own.completion ≡ cancellation → ⊥
  never_cancelled is = by given.own.due where
    by : AreDue q.order given.own.completion (WasCancelled request before) → ⊥
    by (inl won) = kept won.0
    by (inr due) = ends_apart due.1.0 (sym due.1.2 ∙ is)

  in_stage : (s : Stage) → q.stage ≡ s → completion_of s ≡ Some given.own.completion → IsAnswered
  in_stage Open is e = absurd (cc)
  in_stage HandedOut is e = absurd (cc)
  in_stage (Answered end) is e = record {
    end = end;
    told = sym (same_Some (end_completion end) given.own.completion e);
    offered = offered_end thread_calls g q.order.request start given.old before opens (history_of g before start given.old given.led) q end given.own.runs.stood is;
  }
  in_stage Cancelled is e = absurd (never_cancelled (sym (same_Some cancellation given.own.completion e)))

  pub answered_by : IsAnswered
  answered_by = in_stage q.stage refl given.own.runs.given

module _ (once : IsAfterOnce thread_calls) (own : IsAfterOwn thread_calls) (last : IsAfterLast thread_calls) where
  pub joint_once : (loaded : Loaded) (serving : Serving) (served : List Served) (crew : WorkerView) (run : JointRun loaded serving served crew)
      (k : ℕ) (s : Served) (events : List Event) → slice_get served k ≡ Some s → slice_get run.loops k ≡ Some events
      → EndsByWorkers run.workers (setting_at loaded serving k) s.ending s.emits.items events
  unfolding ends_once
  joint_once loaded serving served crew run k s events served_at at = record {
    ends = ends;
    same = ended.1;
    by_worker = λ request before behind did out made is after kept.
        let given = ends.own request before behind did out made (ended.1 ∙ is) after in
        let reply = answered_by g ended.0.done.start ended.0.done.opens before request did made given kept in
        let there = Contains-append_left before (Stepped did out made ∷ behind) (EndOffered given.own.request.order reply.end true) reply.offered in
        let place = place_of events (EndOffered given.own.request.order reply.end true) (rw (sym is) at there) in
        record {
          given = given;
          end = reply.end;
          told = reply.told;
          put = (run.same k place.0 events given.own.request.order reply.end true at place.1).1;
        };
  } where
    g : Setting
    g = setting_at loaded serving k

    ended : (ended : HasEnded thread_calls g s.ending s.emits.items) × (ended.done.events ≡ events)
    ended = let it = run.each k s events served_at at in (it.0, it.1)

    ends : EndsAfterOnce g s.ending s.emits.items
    ends = ends_once once own last g s.ending s.emits.items ended.0
