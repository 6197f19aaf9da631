-- A call that is under way: how it has come to its host, and the same over another host.
use Rattle.interp.proofs.Words.{AreTables, Caller, ComesFromAny, Contents, HostCall, IsUnderWay, Last, List, MachineState, None, Option, Paused, Program}
use Rattle.interp.proofs.Words.{program_of, refl, RunIsPaused, RunStandsAt, SideTable, Some, standing, Store, take, ValidModule, ValType, Value, ℕ, ◌-◌}
use Rattle.reduction.specs.Hosting.{Lawful}
use Rattle.interp.proofs.Slots.CallsBegin.{under_way}

-- it has come by a lawful trace
pub came_by : {H : Type 0} (m : Contents) → ValidModule m → (tables : List SideTable) → AreTables m tables → (moves : H → HostCall → H → Type 0) (s t : Store) (before after : H)
    (args : List Value) (fuel : ℕ) (paused : Paused) (slots : List ℕ) (frames : List Caller)
    → RunIsPaused m tables moves s before args fuel paused slots frames t after → (trace : List HostCall) × Lawful moves trace before after
came_by m valid tables agree moves s t before after args fuel paused slots frames c =
    let b = c.begun in
    let p = program_of m tables in
    let types = b.takes.type.results in
    let first = standing b.start b.slots b.frames s fuel in
    let u : IsUnderWay m p paused.depth types first =
    rw (← b.deep) (under_way m paused.function args b.takes valid b.defined tables agree p refl b.start b.slots b.opened b.small b.frames s fuel b.fit types refl) in
    let come = c.comes u.body u.contexts u.places u.bodies u.program u.represents in
    (come.trace, come.lawful)

-- Each trace that leads the one host from where it began to where it stands leads the other so.
module _ {H K : Type 0} (moves : H → HostCall → H → Type 0) (others : K → HostCall → K → Type 0) (before after : H) (began stands : K)
    (carries : (trace : List HostCall) → Lawful moves trace before after → Lawful others trace began stands) (m : Contents) where
  comes_over : (p : Program) (depth : ℕ) (types : List ValType) (first st : MachineState) → ComesFromAny m p depth moves types first before st after
      → ComesFromAny m p depth others types first began st stands
  comes_over p depth types first st comes body contexts places bodies program represents =
      let come = comes body contexts places bodies program represents in
      record {
        trace = come.trace;
        lawful = carries come.trace come.lawful;
        there = come.there;
        now = come.now;
        represents = come.represents;
        cost = come.cost;
        paid = come.paid;
        leads = come.leads;
      }

  stands_over : (depth function : ℕ) (s t : Store) (args : List Value) (used : ℕ) (frames : List Caller) (last : Option Last)
      → RunStandsAt m depth moves function s before args used t after last frames → RunStandsAt m depth others function s began args used t stands last frames
  stands_over depth function s t args used frames None q = q
  stands_over depth function s t args used frames (Some last) q =
      let led = q.1.leads in (
        q.0,
        record {
          leads = record { asked = led.asked; ran = led.ran; answered = carries led.asked led.answered; stopped = led.stopped };
          within = q.1.within;
        },
      )

  pub paused_over : (tables : List SideTable) (s t : Store) (args : List Value) (fuel : ℕ) (paused : Paused) (slots : List ℕ) (frames : List Caller)
      → RunIsPaused m tables moves s before args fuel paused slots frames t after → RunIsPaused m tables others s began args fuel paused slots frames t stands
  paused_over tables s t args fuel paused slots frames q = record {
    begun = q.begun;
    paid = q.paid;
    comes = comes_over (program_of m tables) paused.depth q.begun.takes.type.results (standing q.begun.start q.begun.slots q.begun.frames s fuel)
        (standing paused.at slots (take (paused.depth - 1) frames) t paused.left) q.comes;
    stands = stands_over paused.depth paused.function s t args paused.used frames paused.last q.stands;
  }
