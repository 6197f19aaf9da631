-- What is said of refused bytes, and of others that are the same up to the byte at fault.
use Rattle.decode.proofs.Words.{ap, apart, append_assoc, arith, byte, counted, exactly, free_u32, inl, inr, Language, Leaves, length, length-append, List}
use Rattle.decode.proofs.Words.{ReadingStop, refl, Refuses, StopsInside, subst, sym, ℕ, [], ◌++◌, ◌+◌, ◌<◌, ◌^◌, ◌∙◌, ◌∷◌, ◌≡◌, ◌≢◌, ◌≤◌}
use Rattle.syntax.proofs.Joins.{exactly_same}
use Rattle.decode.specs.declared.fault.DecodeFault.TheVariants as faults
use Rattle.decode.specs.Modules.{IsOfAByte}
use Rattle.decode.specs.Inner.Reading.{IsRefusedSo}

-- Where bytes are cut twice, the shorter front begins the longer one.
pub record Cut (front mid far behind : List ℕ) : Type 0 where
  pub more : List ℕ
  pub longer : far ≡ front ++ more
  pub rest : mid ≡ more ++ behind

pub cut : (front mid far behind : List ℕ) → front ++ mid ≡ far ++ behind → length behind ≤ length mid → Cut front mid far behind
cut [] mid far behind e few = record { more = far; longer = refl; rest = e }
cut (b ∷ front) mid [] behind e few =
    let l : length (b ∷ front ++ mid) ≡ length behind = ap length e in
    absurd (omega (arith, l, few, length-append front mid))
cut (b ∷ front) mid (c ∷ far) behind e few =
    let here : b ≡ c = cc in
    let tails : front ++ mid ≡ far ++ behind = cc in
    let r = cut front mid far behind tails few in
    record { more = r.more; longer = ap (λ d. d ∷ far) (sym here) ∙ ap (λ t. b ∷ t) r.longer; rest = r.rest }

pub no_longer : {L : Language} {bytes rest : List ℕ} → Leaves L bytes rest → length rest ≤ length bytes
no_longer {bytes = bytes} {rest = rest} l =
    let e : length bytes ≡ length (l.front ++ rest) = ap length l.split in
    omega (arith, e, length-append l.front rest)

pub byte_longer : {b : ℕ} {bytes rest : List ℕ} → Leaves (byte b) bytes rest → length bytes ≡ length rest + 1
byte_longer {b} {bytes} {rest} l =
    let e : length bytes ≡ length (b ∷ [] ++ rest) = ap length (l.split ∙ ap (λ t. t ++ rest) l.spelled) in
    omega (arith, e)

-- what follows from it of each text
pub hence : {N P : List ℕ → Type 0} {bytes : List ℕ} {e : ReadingStop} → Refuses N bytes e → ((text : List ℕ) → N text → P text) → Refuses P bytes e
hence r goes = record { within = r.within; holds = λ other so. goes other (r.holds other so) }

-- behind what was read
pub after : {L : Language} {N P : List ℕ → Type 0} {bytes mid : List ℕ} {e : ReadingStop} → Leaves L bytes mid → Refuses N mid e
    → ((text rest : List ℕ) → Leaves L text rest → N rest → P text) → Refuses P bytes e
after {L} {N} {P} {bytes} {mid} {e} l r goes = record {
  within = λ is.
      let w = r.within is in
      let few = w.1 in
      let all = no_longer l in
      (w.0, omega (arith, few, all));
  holds = λ other so.
      elim so [
        | inl same ↦ goes other mid (rw same at l) (r.holds mid (inl refl))
        | inr k ↦
            let w = r.within k.0 in
            let few = w.1 in
            let a = k.1 in
            let place = a.place in
            let x = cut l.front mid a.front a.behind (sym l.split ∙ a.split) (omega (arith, few, place)) in
            goes other (x.more ++ a.more)
            (record { front = l.front; spelled = l.spelled; split = a.same ∙ ap (λ t. t ++ a.more) x.longer ∙ append_assoc l.front x.more a.more })
            (r.holds (x.more ++ a.more) (inr (k.0, record { front = x.more; behind = a.behind; more = a.more; split = x.rest; same = refl; place = a.place })))
      ];
}

pub after2 : {L M : Language} {N P : List ℕ → Type 0} {bytes mid next : List ℕ} {e : ReadingStop} → Leaves L bytes mid → Leaves M mid next → Refuses N next e
    → ((text t rest : List ℕ) → Leaves L text t → Leaves M t rest → N rest → P text) → Refuses P bytes e
after2 {L} {M} {N} {P} l m r goes =
    after l (after {P = λ (u : List ℕ). (t : List ℕ) → Leaves L t u → P t} m r (λ u v k none t h. goes t u v h k none)) (λ t u h f. f t h)

pub after3 : {L M K : Language} {N P : List ℕ → Type 0} {bytes mid next last : List ℕ} {e : ReadingStop} → Leaves L bytes mid → Leaves M mid next → Leaves K next last
    → Refuses N last e → ((text t u rest : List ℕ) → Leaves L text t → Leaves M t u → Leaves K u rest → N rest → P text) → Refuses P bytes e
after3 {L} {M} {K} {N} {P} l m k r goes =
    after l (after2 {P = λ (u : List ℕ). (t : List ℕ) → Leaves L t u → P t} m k r (λ u v w p q none t h. goes t u v w h p q none)) (λ t u h f. f t h)

-- where bytes are left, some are left of the others too
pub filled : {N : List ℕ → Type 0} {bytes : List ℕ} {e : ReadingStop} → Refuses N bytes e → (bytes ≡ [] → ⊥) → Refuses (λ (t : List ℕ). (t ≡ [] → ⊥) × N t) bytes e
filled {N} {bytes} {e} r some = record {
  within = r.within;
  holds = λ other so. (there other so, r.holds other so);
}
  where
    there : (other : List ℕ) → IsRefusedSo bytes e other → other ≡ [] → ⊥
    there other (inl same) none = some (same ∙ none)
    there other (inr (is, a)) none =
        let w = r.within is in
        let few = w.1 in
        let place = a.place in
        let all : length bytes ≡ length (a.front ++ a.behind) = ap length a.split in
        let gone : length (a.front ++ a.more) ≡ 0 = ap length (sym a.same ∙ none) in
        omega (arith, few, place, all, gone, length-append a.front a.behind, length-append a.front a.more)

-- the first byte, which is the first one of the others too
pub with_first : {N : List ℕ → Type 0} {b : ℕ} {bytes rest : List ℕ} {e : ReadingStop} → Leaves (byte b) bytes rest → Refuses N bytes e
    → Refuses (λ (t : List ℕ). (left : List ℕ) × Leaves (byte b) t left × N t) bytes e
with_first {N} {b} {bytes} {rest} {e} l r = record {
  within = r.within;
  holds = λ other so. elim so [
    | inl same ↦ (rest, rw same at l, r.holds other (inl same))
    | inr k ↦
        let w = r.within k.0 in
        let few = w.1 in
        let a = k.1 in
        let place = a.place in
        let one = byte_longer l in
        let x = cut l.front rest a.front a.behind (sym l.split ∙ a.split) (omega (arith, few, place, one)) in (
          x.more ++ a.more,
          record { front = l.front; spelled = l.spelled; split = a.same ∙ ap (λ t. t ++ a.more) x.longer ∙ append_assoc l.front x.more a.more },
          r.holds other (inr k),
        )
  ];
}

-- what isn't of a byte that is there
pub elsewhere : {P : List ℕ → Type 0} {bytes : List ℕ} {e : ReadingStop} → (IsOfAByte e.fault → ⊥) → P bytes → Refuses P bytes e
elsewhere {P} isnt p = record { within = λ is. absurd (isnt is); holds = λ other so. elim so [ inl same ↦ subst P same p | inr k ↦ absurd (isnt k.0) ] }

pub ended : {P : List ℕ → Type 0} {bytes : List ℕ} {e : ReadingStop} → e.fault ≡ faults.End → P bytes → Refuses P bytes e
ended end p = elsewhere (λ is. is.1 end) p

stops : {L : Language} {P : List ℕ → Type 0} {bytes rest : List ℕ} {e : ReadingStop} → Leaves L bytes rest → 1 ≤ e.left → e.left ≤ length bytes → e.left ≤ length rest + 1
    → ((text left : List ℕ) → Leaves L text left → length rest + 1 ≤ e.left + length left → P text) → Refuses P bytes e
stops {L} {P} {bytes} {rest} {e} l some within few goes = record {
  within = λ is. (some, within);
  holds = λ other so.
      elim so [
        | inl same ↦ goes other rest (rw same at l) (omega (arith, some))
        | inr k ↦
            let a = k.1 in
            let place = a.place in
            let x = cut l.front rest a.front a.behind (sym l.split ∙ a.split) (omega (arith, few, place)) in
            let e : length rest ≡ length (x.more ++ a.behind) = ap length x.rest in
            goes other (x.more ++ a.more)
            (record { front = l.front; spelled = l.spelled; split = a.same ∙ ap (λ t. t ++ a.more) x.longer ∙ append_assoc l.front x.more a.more })
            (omega (arith, e, place, length-append x.more a.behind, length-append x.more a.more))
      ];
}

-- at the last byte of what was read
pub stops_behind : {L : Language} {P : List ℕ → Type 0} {bytes rest : List ℕ} {e : ReadingStop} → Leaves L bytes rest → length rest < length bytes → e.left ≡ length rest + 1
    → ((text left : List ℕ) → Leaves L text left → P text) → Refuses P bytes e
stops_behind {L} {P} {bytes} {rest} {e} l less is goes = stops l (omega (arith, is)) (omega (arith, less, is)) (omega (arith, is)) (λ text left k more. goes text left k)

pub stops_there : {L : Language} {bytes rest : List ℕ} {e : ReadingStop} → Leaves L bytes rest → length rest < length bytes → e.left ≡ length rest + 1
    → Refuses (λ (text : List ℕ). (left : List ℕ) × Leaves L text left) bytes e
stops_there l less is = stops_behind l less is (λ text left k. (left, k))

-- at the byte that was read
pub stops_at : {P : List ℕ → Type 0} {b : ℕ} {bytes rest : List ℕ} {e : ReadingStop} → Leaves (byte b) bytes rest → e.left ≡ length bytes
    → ((text left : List ℕ) → Leaves (byte b) text left → P text) → Refuses P bytes e
stops_at {P} {b} {bytes} {rest} {e} l is goes = let k = byte_longer l in stops_behind l (omega (arith, k)) (omega (arith, k, is)) goes

-- at the byte behind what was read
pub stops_before : {L : Language} {P : List ℕ → Type 0} {bytes rest : List ℕ} {e : ReadingStop} → Leaves L bytes rest → 0 < length rest → e.left ≡ length rest
    → ((text left : List ℕ) → Leaves L text left → 0 < length left → P text) → Refuses P bytes e
stops_before {L} {P} {bytes} {rest} {e} l some is goes =
    let all = no_longer l in
    stops l (omega (arith, some, is)) (omega (arith, all, is)) (omega (arith, is)) (λ text left k more. goes text left k (omega (arith, more, is)))

-- ---- in what a section or a body holds

in_contents : {P : List ℕ → Type 0} {contents mid rest : List ℕ} {e : ReadingStop} → e.fault ≢ faults.Memory → length contents + length rest < 2 ^ 64
    → Leaves (exactly contents) mid rest → StopsInside P contents (length rest) e
    → Refuses (λ (t : List ℕ). (v r : List ℕ) → length contents ≡ length v → Leaves (exactly v) t r → P v) mid e
in_contents {P} {contents} {mid} {rest} {e} ok short l s = record {
  within = λ is.
      let w = inner.within (subst IsOfAByte s.told is) in
      let some = w.0 in
      let few = w.1 in
      let left = s.left (omega (arith, few, short, all)) in
      (omega (arith, some, left), omega (arith, few, left, all));
  holds = λ other so.
      elim so [
        | inl same ↦ λ v r n k.
            let e = exactly_same contents v mid rest r n l (rw same k) in
            subst P e.0 (inner.holds contents (inl refl))
        | inr j ↦ λ v r n k.
            let is = subst IsOfAByte s.told j.0 in
            let a = j.1 in
            let place = a.place in
            let w = inner.within is in
            let some = w.0 in
            let few = w.1 in
            let left = s.left (omega (arith, few, short, all)) in
            let here : a.front ++ a.behind ≡ contents ++ rest = sym a.split ∙ whole in
            let there : a.front ++ a.more ≡ v ++ r = sym a.same ∙ k.split ∙ ap (λ t. t ++ r) k.spelled in
            let these : length (a.front ++ a.behind) ≡ length (contents ++ rest) = ap length here in
            let those : length (a.front ++ a.more) ≡ length (v ++ r) = ap length there in
            let x = cut a.front a.behind contents rest here (omega (arith, some, left, place)) in
            let y = cut a.front a.more v r there (omega (arith, n, some, left, place, these, those, length-append a.front a.behind, length-append contents rest, length-append a.front a.more, length-append v r)) in
            let cut_off : length a.behind ≡ length (x.more ++ rest) = ap length x.rest in
            inner.holds v (inr (
              is,
              record {
                front = a.front;
                behind = x.more;
                more = y.more;
                split = x.longer;
                same = y.longer;
                place = omega (arith, place, left, cut_off, length-append x.more rest);
              },
            ))
      ];
}
  where
    inner : Refuses P contents s.inner
    inner = s.refuses ok

    whole : mid ≡ contents ++ rest
    whole = l.split ∙ ap (λ t. t ++ rest) l.spelled

    all : length mid ≡ length contents + length rest
    all = ap length whole ∙ length-append contents rest

pub inside : {P : List ℕ → Type 0} {contents bytes rest : List ℕ} {e : ReadingStop} → e.fault ≢ faults.Memory → length contents + length rest < 2 ^ 64
    → Leaves (counted contents) bytes rest → StopsInside P contents (length rest) e
    → Refuses (λ (t : List ℕ). (v r : List ℕ) → Leaves (counted v) t r → P v) bytes e
inside {P} {contents} {bytes} {rest} {e} ok short l s =
    let a = apart l in
    after a.first (in_contents ok short a.second s) (λ text mid k none v r h.
    let b = apart h in
    let same = free_u32.one (length contents) (length v) text mid b.mid k b.first in
    none v r same.0 (rw same.1 b.second))
