-- One run of `serve`, of all its loops and all its workers together.
use Rattle.std.specs.Prelude.{◌≡◌, ℕ, ◌≤◌, Bool, false, List, [], length, flat_map, count_by, sum_by, Some, slice_get}
use Rattle.syntax.specs.Loaded.{Loaded}
use Rattle.claims.specs.declared.seats.Ticket.{Ticket}
use Rattle.claims.specs.Views.{LoopView, WorkerView, EachOnce, IsSettled, IsFoundByJoined, is_ticket}
use Rattle.order.specs.Orders.{order_of, end_of}
use Rattle.order.specs.Work.{WorkOrder, WorkEnd}
use Rattle.order.specs.declared.reply.Reply.{Reply}
use Rattle.board.specs.Jobs.{ticket_of}
use Rattle.phases.specs.History.{Event, OrderAsked, EndOffered}
use Rattle.pool.specs.Turns.{Turn, Put, ticket_in, started_by}
use Rattle.serve.specs.declared.served.Served.{Served}
use Rattle.serve.specs.declared.serving.Serving.{Serving}
use Rattle.serve.specs.HandedOut.{FoundBehind, OnlyPosts, passed_of}
use Rattle.serve.specs.Histories.{HasEnded, thread_calls, setting_at}

-- the ticket of a request that was asked for
abbrev pub ticket_for : WorkOrder → Ticket
ticket_for o = record { loop_no = o.loop_no; slot = o.slot; request = o.request }

-- in the event a loop hands out the order of this ticket, or it is offered a reply to it
abbrev pub asks : Ticket → Event → Bool
asks t (OrderAsked (Some o)) = is_ticket t (ticket_for o)
asks t _ = false

abbrev pub is_offered : Ticket → Event → Bool
is_offered t (EndOffered o end taken) = is_ticket t (ticket_for o)
is_offered t _ = false

-- in the turn a worker takes a job of this ticket, or puts a reply to it
abbrev pub takes : Ticket → Turn → Bool
takes t turn = is_ticket t (ticket_in turn)

abbrev pub puts : Ticket → Turn → Bool
puts t (Put reply) = is_ticket t (ticket_of reply.order)
puts t _ = false

-- how often something is so in some lists, all together
abbrev pub times_in : {A : Type 0} → (A → Bool) → List (List A) → ℕ
times_in p lists = sum_by (λ xs. count_by p xs) lists

-- one of these workers put a reply to this order, with this end
abbrev pub IsPut : (workers : List (List Turn)) → WorkOrder → WorkEnd → Type 0
IsPut workers o end =
    (w j : ℕ) × (turns : List Turn) × (reply : Reply) × (slice_get workers w ≡ Some turns) × (slice_get turns j ≡ Some (Put reply))
    × (order_of reply.order ≡ o) × (end_of reply.outcome ≡ end)

-- with what workers have started the loop's seat is settled, and they have started all that it found started
pub record IsSettledWith (started : List Ticket) (seat : LoopView) : Type 0 where
  pub settled : IsSettled (record seat { joined = started })
  pub found : IsFoundByJoined (record seat { joined = started })

-- A loop's seat and the crew's are of one table of claims. As the loop has joined no worker's seat, what it knows with the crew's is
-- settled: each request was started once at most, having been posted, or cancelled, and never both. What it found started, a worker of
-- the crew has started.
pub record AreOneClaims (seat : LoopView) (crew : WorkerView) : Type 0 where
  pub claims : seat.claims ≡ crew.claims
  pub with_crew : IsSettledWith crew.started seat

-- There are a history of each loop, which its answer reports, and in which the loop has found started only what it had handed out
-- before, and its thread did nothing beside it but post such requests; and the turns of each worker, in order, which started just what the crew's seats have started, worker by worker: each
-- ticket once. The seat with which a loop has ended is of the same claims as the crew's: what it cancelled no worker started, what a
-- worker started of its requests it had posted, and what it found started a worker has started. Of every ticket workers took, all together, at most as many jobs as its order was handed out. Of every ticket a loop
-- was offered at most as many replies as workers put, all together; each is to a request of its own, and in all fields one that a
-- worker put.
pub record JointRun (loaded : Loaded) (serving : Serving) (served : List Served) (crew : WorkerView) : Type 0 where
  pub loops : List (List Event)
  pub workers : List (List Turn)
  pub loop_count : length loops ≡ serving.loops
  pub worker_count : length workers ≡ serving.workers
  pub each : (k : ℕ) (s : Served) (events : List Event) → slice_get served k ≡ Some s → slice_get loops k ≡ Some events
      → (ended : HasEnded thread_calls (setting_at loaded serving k) s.ending s.emits.items) × (ended.done.events ≡ events)
      × FoundBehind [] (passed_of (setting_at loaded serving k) ended.done)
  pub beside : (k : ℕ) (s : Served) (events : List Event) (at : slice_get served k ≡ Some s) (did : slice_get loops k ≡ Some events)
      → let done = (each k s events at did).0.done in
      OnlyPosts [] done.start (passed_of (setting_at loaded serving k) done)
  pub own : (k : ℕ) (s : Served) (events : List Event) (at : slice_get served k ≡ Some s) (did : slice_get loops k ≡ Some events)
      → AreOneClaims (each k s events at did).0.now.shared.loop_seat crew
  pub started : crew.started ≡ flat_map started_by workers
  pub once : EachOnce crew.started
  pub taken : (t : Ticket) → times_in (takes t) workers ≤ times_in (asks t) loops
  pub offered : (k : ℕ) (events : List Event) → slice_get loops k ≡ Some events → (t : Ticket) → count_by (is_offered t) events ≤ times_in (puts t) workers
  pub same : (k i : ℕ) (events : List Event) (o : WorkOrder) (end : WorkEnd) (is_taken : Bool) → slice_get loops k ≡ Some events
      → slice_get events i ≡ Some (EndOffered o end is_taken)
      → (o.loop_no ≡ k) × IsPut workers o end
