-- Where no integer is read, at its last byte.
use Rattle.decode.proofs.Words.{ap, append_assoc, arith, inl, inr, length, length-append, List, NoneLeaves, ReadingStop, refl, Refuses, spelled_residue, sym}
use Rattle.decode.proofs.Words.{u32, ℕ, ℤ, [], ◌*◌, ◌++◌, ◌+◌, ◌-◌, ◌<◌, ◌^◌, ◌∙◌, ◌∷◌, ◌≡◌, ◌≢◌, ◌≤◌}
use Rattle.decode.proofs.Words.{byte, Leaves, pos}
use Rattle.std.proofs.lemmas.Int.{ints}
use Rattle.std.specs.Prelude.{◌-ℤ◌}
use Rattle.leb.specs.Spelling.{SpellsUnsigned, SpellsSigned, NoneStandsAt, greatest_length}
use Rattle.leb.specs.LebFault.{RunsOn, IsOutOfRange}
use Rattle.leb.specs.declared.fault.LebFault.{LebFault}
use Rattle.leb.specs.declared.fault.LebFault.TheVariants as leb_fault
use Rattle.decode.specs.declared.fault.DecodeFault.TheVariants as faults
use Rattle.decode.proofs.RefusalLaws.{cut, hence, ended}

unsigned_short : (N k : ℕ) → N ≤ 7 * k → 0 < k → (text : List ℕ) (n : ℕ) → SpellsUnsigned N text n → length text ≤ k
unsigned_short N k few some [] n s = absurd s
unsigned_short N k few some (b ∷ []) n s = omega (arith, some)
unsigned_short N k few some (b ∷ c ∷ bs) n (high, low, wide, m, s, e) =
    let r = unsigned_short (N - 7) (k - 1) (omega (arith, few)) (omega (arith, few, wide)) (c ∷ bs) m s in
    omega (arith, r, some)

signed_short : (N k : ℕ) → N ≤ 7 * k → 0 < k → (text : List ℕ) (z : ℤ) → SpellsSigned N text z → length text ≤ k
signed_short N k few some [] z s = absurd s
signed_short N k few some (b ∷ []) z s = omega (arith, some)
signed_short N k few some (b ∷ c ∷ bs) z (high, low, wide, m, s, e) =
    let r = signed_short (N - 7) (k - 1) (omega (arith, few)) (omega (arith, few, wide)) (c ∷ bs) m s in
    omega (arith, r, some)

at_longest : {V : Type 0} (Spells : ℕ → List ℕ → V → Type 0) (N : ℕ) {longest : ℕ} {bytes : List ℕ} {e : ReadingStop}
    → ((text : List ℕ) (v : V) → Spells N text v → length text ≤ longest) → 0 < longest → NoneStandsAt Spells N bytes 0 → longest ≤ length bytes
    → e.left + longest ≡ length bytes + 1 → Refuses (λ (text : List ℕ). NoneStandsAt Spells N text 0) bytes e
at_longest {V} Spells N {longest} {bytes} {e} short some none room left = record {
  within = λ is. (omega (arith, left, room), omega (arith, left, some));
  holds = λ other so.
      elim so [
        | inl same ↦ rw same at none
        | inr k ↦ λ front behind v split s.
            let a = k.1 in
            let place = a.place in
            let few = short front v s in
            let both : front ++ behind ≡ a.front ++ a.more = sym split ∙ a.same in
            let all : length bytes ≡ length (a.front ++ a.behind) = ap length a.split in
            let these : length (front ++ behind) ≡ length (a.front ++ a.more) = ap length both in
            let x = cut front behind a.front a.more both (omega (arith, few, place, left, all, these, length-append a.front a.behind, length-append front behind, length-append a.front a.more)) in
            none front (x.more ++ a.behind) v (a.split ∙ ap (λ t. t ++ a.behind) x.longer ∙ append_assoc front x.more a.behind) s
      ];
}

integer_refused : {V : Type 0} (Spells : ℕ → List ℕ → V → Type 0) (N longest : ℕ) (bytes : List ℕ) (fault : LebFault) (e : ReadingStop) → greatest_length N ≡ longest → 0 < longest
    → ((text : List ℕ) (v : V) → Spells N text v → length text ≤ longest) → NoneStandsAt Spells N bytes 0 → (fault ≡ leb_fault.TooLong → RunsOn N bytes)
    → (fault ≡ leb_fault.Range → IsOutOfRange Spells N bytes) → (fault ≡ leb_fault.End → e.fault ≡ faults.End)
    → (fault ≢ leb_fault.End → longest ≤ length bytes → e.left + longest ≡ length bytes + 1) → Refuses (λ (text : List ℕ). NoneStandsAt Spells N text 0) bytes e
integer_refused Spells N longest bytes leb_fault.End e is some short none on out end left = ended (end refl) none
integer_refused Spells N longest bytes leb_fault.TooLong e is some short none on out end left =
    let room = (on refl).0 in
    let enough : longest ≤ length bytes = omega (arith, room, is) in
    at_longest Spells N short some none enough (left (λ same. cc) enough)
integer_refused Spells N longest bytes leb_fault.Range e is some short none on out end left =
    let o = out refl in
    let greatest = o.greatest in
    let all : length bytes ≡ length (o.front ++ o.last ∷ o.behind) = ap length o.split in
    let enough : longest ≤ length bytes = omega (arith, greatest, is, all, length-append o.front (o.last ∷ o.behind)) in
    at_longest Spells N short some none enough (left (λ same. cc) enough)

pub no_u32 : {bytes : List ℕ} (fault : LebFault) {e : ReadingStop} → NoneStandsAt SpellsUnsigned 32 bytes 0 → (fault ≡ leb_fault.TooLong → RunsOn 32 bytes)
    → (fault ≡ leb_fault.Range → IsOutOfRange SpellsUnsigned 32 bytes) → (fault ≡ leb_fault.End → e.fault ≡ faults.End)
    → (fault ≢ leb_fault.End → 5 ≤ length bytes → e.left + 5 ≡ length bytes + 1) → Refuses (NoneLeaves u32) bytes e
no_u32 {bytes} fault {e} none on out end left =
    hence (integer_refused SpellsUnsigned 32 5 bytes fault e refl (omega arith) (unsigned_short 32 5 (omega arith) (omega arith)) none on out end left) (λ text none v rest l.
    none l.front rest v l.split l.spelled)

pub no_signed : (N longest : ℕ) → greatest_length N ≡ longest → 0 < longest → N ≤ 7 * longest → {bytes : List ℕ} (fault : LebFault) {e : ReadingStop} → NoneStandsAt SpellsSigned N bytes 0
    → (fault ≡ leb_fault.TooLong → RunsOn N bytes) → (fault ≡ leb_fault.Range → IsOutOfRange SpellsSigned N bytes) → (fault ≡ leb_fault.End → e.fault ≡ faults.End)
    → (fault ≢ leb_fault.End → longest ≤ length bytes → e.left + longest ≡ length bytes + 1) → Refuses (λ (text : List ℕ). NoneStandsAt SpellsSigned N text 0) bytes e
no_signed N longest is some few {bytes} fault {e} none on out end left = integer_refused SpellsSigned N longest bytes fault e is some (signed_short N longest few some) none on out end left

pub no_residue : {N : ℕ} {bytes : List ℕ} {e : ReadingStop} → Refuses (λ (text : List ℕ). NoneStandsAt SpellsSigned N text 0) bytes e → Refuses (NoneLeaves (spelled_residue N)) bytes e
no_residue r = hence r (λ text none v rest l. none l.front rest l.spelled.0 l.split l.spelled.1)

-- ---- integers of one byte

pub alone_u32 : {n : ℕ} {bytes rest : List ℕ} → n < 0x80 → Leaves (byte n) bytes rest → Leaves (u32 n) bytes rest
alone_u32 low l = record { front = l.front; spelled = rw l.spelled (omega (arith, low), omega (arith, low), refl); split = l.split }

pub alone_residue : {b n : ℕ} {bytes rest : List ℕ} → spelled_residue 32 n (b ∷ []) → Leaves (byte b) bytes rest → Leaves (spelled_residue 32 n) bytes rest
alone_residue s l = record { front = l.front; spelled = rw l.spelled s; split = l.split }

pub low_residue : (b : ℕ) → b < 0x40 → spelled_residue 32 b (b ∷ [])
low_residue b low = (pos b, inl (omega (arith, low), omega (arith, low), refl), inl (omega (arith, ints), refl))

pub high_residue : (b : ℕ) → 0x40 ≤ b → b < 0x80 → spelled_residue 32 (b + 0xffffff80) (b ∷ [])
high_residue b high low =
    (pos b -ℤ pos (2 ^ 7), inr (omega (arith, high), omega (arith, low), omega (arith, high), refl), inr (omega (arith, ints, low), omega (arith, ints, low)))
