-- The bytes of a memory of which a front is kept.
use Rattle.std.proofs.Common.{◌≡◌, ℕ, zero, suc, ◌+◌, ◌-◌, ◌*◌, ◌%◌, ◌≤◌, min, List, [], ◌∷◌, ◌++◌, length, take, drop, replicate, Some, Bool, true, false, if◌then◌else◌, nat_le, le-leb, refl}
use Rattle.std.proofs.Common.{sym, ap, ◌∙◌, arith, append_assoc, length-append, length-drop}
use Rattle.std.proofs.lemmas.List.{length-replicate, replicate-append-replicate, drop-replicate, take-replicate, length-take, take_all}
use Rattle.std.proofs.Math.Seq.{drop-nil}
use Rattle.std.specs.Int.{next_multiple_of}
use Rattle.limits.specs.declared.TheConstants.{PAGE_SIZE}
use Rattle.instance.specs.Store.{MemoryInstance, bytes_at, number_at, number_of, pages, grown}
use Rattle.instance.specs.Reads.{with_bytes}
use Rattle.instance.specs.Inner.Room.{all_bytes, rounded}
use Rattle.instance.specs.declared.front.TheConstants.{STEP, FINE_STEP, NEAR}

length-all_bytes : (total : ℕ) (front : List ℕ) → length front ≤ total → length (all_bytes total front) ≡ total
length-all_bytes total front within =
    omega (arith, length-append front (replicate (total - length front) 0), length-replicate {A = ℕ} (total - length front) 0)

-- as many zeros more behind a front are those of so many bytes more
all_bytes-grown : (total more : ℕ) (front : List ℕ) → length front ≤ total → all_bytes total front ++ replicate more 0 ≡ all_bytes (total + more) front
all_bytes-grown total more front within =
    let l : (total - length front) + more ≡ total + more - length front = omega arith in
    append_assoc front (replicate (total - length front) 0) (replicate more 0)
    ∙ ap (λ (zs : List ℕ). front ++ zs) (replicate-append-replicate {A = ℕ} (total - length front) more 0)
    ∙ ap (λ (k : ℕ). front ++ replicate k 0) l

-- a front that is longer by zeros is one of the same bytes
pub same_with_zeros : (total more : ℕ) (front longer : List ℕ) → longer ≡ front ++ replicate more 0 → length front + more ≤ total
    → all_bytes total longer ≡ all_bytes total front
same_with_zeros total more front longer is fits =
    let left = total - length (front ++ replicate more 0) in
    let l : length (front ++ replicate more 0) ≡ length front + more = omega (arith, length-append front (replicate more 0), length-replicate {A = ℕ} more 0) in
    let m : more + left ≡ total - length front = omega (arith, l, fits) in
    rw is (append_assoc front (replicate more 0) (replicate left 0)
    ∙ ap (λ (zs : List ℕ). front ++ zs) (replicate-append-replicate {A = ℕ} more left 0)
    ∙ ap (λ (k : ℕ). front ++ replicate k 0) m)

-- a page has a whole number of steps, of both sizes
rounded_by : (fine : Bool) (end count : ℕ) → end ≤ count * PAGE_SIZE → next_multiple_of end (if fine then FINE_STEP else STEP) ≤ count * PAGE_SIZE
rounded_by true end count within =
    let r : end + (FINE_STEP - end % FINE_STEP) % FINE_STEP ≤ count * PAGE_SIZE = omega arith in
    r
rounded_by false end count within =
    let r : end + (STEP - end % STEP) % STEP ≤ count * PAGE_SIZE = omega arith in
    r

pub rounded_within : (end count : ℕ) → end ≤ count * PAGE_SIZE → rounded end ≤ count * PAGE_SIZE
rounded_within end count = rounded_by (nat_le end NEAR) end count

abbrev limited : ℕ → List ℕ → MemoryInstance
limited limit bytes = record { bytes = bytes; limit = limit }

-- a memory that grows keeps its front
pub grown-front : (limit delta count : ℕ) (front : List ℕ) (old : MemoryInstance) → limited limit (all_bytes (count * PAGE_SIZE) front) ≡ old
    → length front ≤ count * PAGE_SIZE → count + delta ≤ limit
    → limited limit (all_bytes ((count + delta) * PAGE_SIZE) front) ≡ with_bytes (grown old.limit delta old.bytes) old
grown-front limit delta count front old is within fits =
    let total = count * PAGE_SIZE in
    let p : pages (all_bytes total front) ≡ count = omega (arith, length-all_bytes total front within) in
    let t : nat_le (pages (all_bytes total front) + delta) limit ≡ true = le-leb _ _ (omega (arith, p)) in
    let m : total + delta * PAGE_SIZE ≡ (count + delta) * PAGE_SIZE = omega arith in
    let b : grown limit delta (all_bytes total front) ≡ all_bytes ((count + delta) * PAGE_SIZE) front =
    rw t (all_bytes-grown total (delta * PAGE_SIZE) front within ∙ ap (λ (k : ℕ). all_bytes k front) m) in
    rw (← is) (ap (λ (bytes : List ℕ). limited limit bytes) (sym b))

-- what lies from a place on: what of the front does, and zeros
drop-zeros : (front : List ℕ) (z at : ℕ) → drop at (front ++ replicate z 0) ≡ drop (min at (length front)) front ++ replicate (z - (at - length front)) 0
drop-zeros [] z at =
    let e : at ≡ at - 0 = omega arith in
    drop-replicate {X = ℕ} at z 0
    ∙ ap (λ (k : ℕ). replicate (z - k) 0) e
    ∙ ap (λ (xs : List ℕ). xs ++ replicate (z - (at - 0)) 0) (sym (drop-nil {A = ℕ} (min at 0)))
drop-zeros (x ∷ front) z zero =
    let m : min zero (suc (length front)) ≡ zero = omega arith in
    let n : z - (zero - suc (length front)) ≡ z = omega arith in
    rw (m, n) refl
drop-zeros (x ∷ front) z (suc at) =
    let m : min (suc at) (suc (length front)) ≡ suc (min at (length front)) = omega arith in
    let n : z - (suc at - suc (length front)) ≡ z - (at - length front) = omega arith in
    rw (m, n) (drop-zeros front z at)

-- with zeros behind, what a list begins with is what all of it begins with
cut-zeros : (xs : List ℕ) (count there a b : ℕ) → there ≡ min count (length xs) → count ≤ there + a → count ≤ length xs + b
    → take count (take there xs ++ replicate a 0) ≡ take count (xs ++ replicate b 0)
cut-zeros [] count there a b is short long =
    let z : there ≡ 0 = omega (arith, is) in
    rw z (take-replicate {X = ℕ} count a 0 (omega (arith, short, z)) ∙ sym (take-replicate {X = ℕ} count b 0 (omega (arith, long))))
cut-zeros (x ∷ xs) zero there a b is short long = refl
cut-zeros (x ∷ xs) (suc count) there a b is short long =
    let t = min count (length xs) in
    let e : there ≡ suc t = omega (arith, is) in
    rw e (ap (λ (ys : List ℕ). x ∷ ys) (cut-zeros xs count t a b refl (omega (arith, short, e)) (omega (arith, long))))

-- the bytes at an address, some of them in the front
bytes_behind : (total : ℕ) (front : List ℕ) (at count start there : ℕ) → length front ≤ total → at + count ≤ total → count ≤ 8
    → start ≡ min at (length front) → there ≡ min count (length front - start)
    → take count (take there (drop start front) ++ replicate (8 - there) 0) ≡ take count (drop at (all_bytes total front))
bytes_behind total front at count start there within fits few begins ends =
    let z = total - length front - (at - length front) in
    let s : drop at (all_bytes total front) ≡ drop start front ++ replicate z 0 =
    drop-zeros front (total - length front) at ∙ ap (λ (k : ℕ). drop k front ++ replicate z 0) (sym begins) in
    let l : length (drop start front) ≡ length front - start = length-drop start front in
    let t : there ≡ min count (length (drop start front)) = omega (arith, l, ends) in
    rw s (cut-zeros (drop start front) count there (8 - there) z t (omega arith) (omega (arith, l)))

pub number_behind : (total at width count l₁ start l₂ there n : ℕ) (front shown part : List ℕ)
    → length front ≤ total → at + width ≤ total → width ≤ 8 → count ≡ width
    → l₁ ≡ length front → start ≡ min at l₁ → l₂ ≡ length front → there ≡ min count (l₂ - start)
    → shown ≡ front → part ≡ take (start + there - start) (drop start shown)
    → n ≡ number_of (take count (part ++ drop there (replicate 8 0)))
    → Some n ≡ number_at at width (all_bytes total front)
number_behind total at width count l₁ start l₂ there n front shown part within fits few is e₁ begins e₂ ends same copied spelled =
    let t : nat_le (at + width) (length (all_bytes total front)) ≡ true = le-leb _ _ (omega (arith, length-all_bytes total front within)) in
    let s : start ≡ min at (length front) = omega (arith, e₁, begins) in
    let u : there ≡ min width (length front - start) = omega (arith, is, e₂, ends) in
    let k : start + there - start ≡ there = omega arith in
    let p : part ≡ take there (drop start front) =
    copied
    ∙ (ap (λ (xs : List ℕ). take (start + there - start) (drop start xs)) same
    ∙ ap (λ (j : ℕ). take j (drop start front)) k) in
    let d : drop there (replicate 8 0) ≡ replicate (8 - there) 0 = drop-replicate {X = ℕ} there 8 0 in
    let whole : take count (part ++ drop there (replicate 8 0)) ≡ take width (take there (drop start front) ++ replicate (8 - there) 0) = rw (is, p, d) refl in
    let b = bytes_behind total front at width start there within fits few s u in
    rw t (ap (λ (m : ℕ). Some m) (spelled ∙ ap (λ (xs : List ℕ). number_of xs) (whole ∙ b)))

-- bytes that are copied: those of them in the front, over zeros
pub copied_behind : (total at count l₁ start l₂ there : ℕ) (front shown part filled : List ℕ)
    → length front ≤ total → at + count ≤ total → l₁ ≡ length front → start ≡ min at l₁ → l₂ ≡ length front → there ≡ min count (l₂ - start)
    → shown ≡ front → part ≡ take (start + there - start) (drop start shown) → filled ≡ replicate count 0
    → bytes_at at count (all_bytes total front) ≡ Some (part ++ drop there filled)
copied_behind total at count l₁ start l₂ there front shown part filled within fits e₁ begins e₂ ends same copied zeros =
    let t : nat_le (at + count) (length (all_bytes total front)) ≡ true = le-leb _ _ (omega (arith, length-all_bytes total front within)) in
    let b : start ≡ min at (length front) = omega (arith, e₁, begins) in
    let k : start + there - start ≡ there = omega arith in
    let xs = drop start front in
    let z = total - length front - (at - length front) in
    let l : length xs ≡ length front - start = length-drop start front in
    let u : there ≡ min count (length xs) = omega (arith, e₂, ends, l) in
    let p : part ≡ take there xs =
    copied
    ∙ (ap (λ (ys : List ℕ). take (start + there - start) (drop start ys)) same
    ∙ ap (λ (j : ℕ). take j xs) k) in
    let d : drop there filled ≡ replicate (count - there) 0 = ap (λ (ys : List ℕ). drop there ys) zeros ∙ drop-replicate {X = ℕ} there count 0 in
    let s : drop at (all_bytes total front) ≡ xs ++ replicate z 0 =
    drop-zeros front (total - length front) at ∙ ap (λ (j : ℕ). drop j front ++ replicate z 0) (sym b) in
    let pieces : length (take there xs ++ replicate (count - there) 0) ≤ count =
    omega (arith, length-append (take there xs) (replicate (count - there) 0), length-take there xs, length-replicate {A = ℕ} (count - there) 0, u) in
    let cut : take count (take there xs ++ replicate (count - there) 0) ≡ take count (xs ++ replicate z 0) =
    cut-zeros xs count there (count - there) z u (omega arith) (omega (arith, l, b, fits, within)) in
    let whole : take count (drop at (all_bytes total front)) ≡ take there xs ++ replicate (count - there) 0 =
    ap (λ (ys : List ℕ). take count ys) s ∙ sym cut ∙ take_all count (take there xs ++ replicate (count - there) 0) pieces in
    let all : take count (drop at (all_bytes total front)) ≡ part ++ drop there filled = rw (p, d) whole in
    rw t (ap (λ (ys : List ℕ). Some ys) all)

pub length_is : (total : ℕ) (front bytes : List ℕ) → length front ≤ total → all_bytes total front ≡ bytes → length bytes ≡ total
length_is total front bytes within is = ap (λ (xs : List ℕ). length xs) (sym is) ∙ length-all_bytes total front within
