-- A request of a loop's owner is a call of a guest whose whole memory is the bytes.
use Rattle.phases.proofs.Words.{ap, AreOpenedUpTo, AreOrdersOf, arith, Calls, CallStep, codes, exports, Failed, false, Grows, GuestCall, IsLawful, IsLinked}
use Rattle.phases.proofs.Words.{length, List, MAX_BYTES, MAX_DEPTH, nat_lt, Over, owners_call, QueuesWork, QueueWork, refl, RequestIn, Requests, Running}
use Rattle.phases.proofs.Words.{Setting, State, Status, subst, sym, taken_out, true, with_requests, ℕ, ◌&&◌, ◌+◌, ◌≡◌, ◌≤◌}
use Rattle.std.proofs.lemmas.Bool.{le-ltb}
use Rattle.std.proofs.Math.Seq.{take-length}
use Rattle.phases.specs.Host.{OpensNext}
use Rattle.phases.proofs.GuestCallsKeep.{call_upto}
use Rattle.phases.proofs.GuestCallsKeepListed.{call_grows, grows_refl}
use Rattle.phases.proofs.Runnable.{call_orders}

-- the bytes of a memory, all of them
whole : (bytes : List ℕ) → taken_out 0 (length bytes) bytes ≡ bytes
whole bytes = take-length bytes

module _ {S : Type 0} (calls : Calls S) (g : Setting) where
  -- what is opened on the bytes is opened on the whole memory
  pub queues : (bytes : List ℕ) (old : Requests × S) (op answer : ℕ) (new : Requests × S)
      → (exports g.loaded.contents (codes "uv_work") && exports g.loaded.contents (codes "uv_after_work")) ≡ true → length bytes ≤ MAX_BYTES
      → OpensNext calls g old op bytes answer new → QueuesWork calls g bytes old op 0 (length bytes) answer new
  queues bytes old op answer new exported few h =
      let small : nat_lt MAX_BYTES (length bytes) ≡ false = le-ltb MAX_BYTES (length bytes) few in
      let inside : nat_lt (length bytes) (0 + length bytes) ≡ false = le-ltb (length bytes) (0 + length bytes) (omega arith) in
      rw exported (rw small (rw inside (rw (whole bytes) h)))

  module _ (old : State × S) (op : ℕ) (bytes : List ℕ) (answer : ℕ) (new : State × S) where
    abbrev made : GuestCall
    made = owners_call op bytes answer

    -- on a loop that goes on
    as_call : RequestIn calls g Running old op bytes answer new → CallStep calls g old made.call new QueueWork made.call.args
    as_call h = (answer, h.0, h.1, (refl, refl), h.2)

    pub request_grows : (status : Status) → RequestIn calls g status old op bytes answer new → Grows old.0 new.0
    request_grows Running h = call_grows calls g old made.call new QueueWork (as_call h)
    request_grows Over h = subst (Grows old.0) (sym (ap (λ p. p.0) h.1)) (grows_refl old.0)
    request_grows Failed h = subst (Grows old.0) (sym (ap (λ p. p.0) h.1)) (grows_refl old.0)

    pub request_upto : IsLawful calls → (status : Status) → RequestIn calls g status old op bytes answer new
        → AreOpenedUpTo old.0.requests.last (calls.view old.1) → AreOpenedUpTo new.0.requests.last (calls.view new.1)
    request_upto lawful Running h upto = call_upto calls lawful g old made.call new QueueWork (as_call h) upto
    request_upto lawful Over h upto = rw h.1 upto
    request_upto lawful Failed h upto = rw h.1 upto

    pub request_orders : IsLinked g.loaded.contents → (1 ≤ g.depth) × (g.depth ≤ MAX_DEPTH) → (status : Status) → RequestIn calls g status old op bytes answer new
        → AreOrdersOf g old.0.requests → AreOrdersOf g new.0.requests
    request_orders linked depth Running h k = call_orders g linked depth calls old made.call new QueueWork (as_call h) k
    request_orders linked depth Over h k = rw h.1 k
    request_orders linked depth Failed h k = rw h.1 k

    pub request_running : (status : Status) → status ≡ Running
        → (requests : Requests) × QueuesWork calls g bytes (old.0.requests, old.1) op 0 (length bytes) answer (requests, new.1) × (new.0 ≡ with_requests old.0 requests)
        → RequestIn calls g status old op bytes answer new
    request_running status is h = rw is h
