-- An operation of a decoded body is one instruction of its bytes.
use Rattle.places.proofs.Words.{apart, arith, drop, integer, IsTheOne, items, items_none, Leaves, LeavesNone, length, length-drop, List, no_items, NoneBegins}
use Rattle.places.proofs.Words.{operation, refl, repeated, sym, u32, zero, suc, ℕ, [], ◌++◌, ◌+◌, ◌∷◌, ◌≡◌, ◌≤◌, ◌⨾◌}
use Rattle.std.proofs.Common.{◌*◌, ◌<◌, ◌⊎◌, inl, inr, Bool, false, Some, None, ap, ◌∙◌, append-nil, subst, slice_get, get_or}
use Rattle.std.proofs.lemmas.List.{length-append, get_or-set_other, get_or-set_same}
use Rattle.std.proofs.lemmas.Option.{slice_get_within}
use Rattle.std.specs.Prelude.{slice_set, slice_index_or, slice_range}
use Rattle.limits.specs.declared.TheConstants.{MAX_NESTING}
use Rattle.places.specs.declared.operations.Spot.{Spot}
use Rattle.places.specs.OperationNames.{name_of_opcode}
use Rattle.places.specs.Spans.{BodyAt, CodeAt, FirstSectionAt}
use Rattle.syntax.specs.Binary.{Section}
use Rattle.places.specs.Walks.{FirstSection}
use Rattle.places.specs.Spots.{BlocksAreFew, decoded, decoded_as, IsSpot, IsUnspelled, latest, blocks_behind, opened_by}
use Rattle.places.proofs.SpanLaws.{items_push}
use Rattle.places.proofs.WalkLaws.{GoesOn, either, first_section, none_empty}
use Rattle.places.proofs.LengthLaws.{free_operation, opcode_here}
use Rattle.places.proofs.BodyLaws.{code_same, locals_one, same_place, section_same}

-- ---- blocks that are open

pub latest_long : (ifs : List Bool) (n : ℕ) → length (latest ifs n) ≡ n
latest_long ifs zero = refl
latest_long ifs (suc n) = ap suc (latest_long ifs n)

latest_kept : (ifs : List Bool) (at n : ℕ) (b : Bool) → n ≤ at → latest (slice_set ifs at b) n ≡ latest ifs n
latest_kept ifs at zero b h = refl
latest_kept ifs at (suc n) b h =
    let other : n ≡ at → ⊥ = λ e. omega (arith, e, h) in
    let less : n ≤ at = omega (arith, h) in
    ap (λ (x : Bool). x ∷ latest (slice_set ifs at b) n) (get_or-set_other ifs at n b false other) ∙ ap (λ (xs : List Bool). slice_index_or ifs n false ∷ xs) (latest_kept ifs at n b less)

pub latest_set : (ifs : List Bool) (at : ℕ) (b : Bool) → at < length ifs → latest (slice_set ifs at b) (at + 1) ≡ b ∷ latest ifs at
latest_set ifs at b h =
    subst (λ (n : ℕ). latest (slice_set ifs at b) n ≡ b ∷ latest ifs at) next (ap (λ (x : Bool). x ∷ latest (slice_set ifs at b) at) (get_or-set_same ifs at b false h) ∙ ap (λ (xs : List Bool). b ∷ xs) (latest_kept ifs at at b (omega arith))) where
      next : suc at ≡ at + 1
      next = omega arith

-- ---- instructions one after the other

decoded_on : (xs ys : List ℕ) (blocks : List Bool) → decoded (xs ++ ys) blocks ≡ decoded xs blocks + decoded ys (blocks_behind xs blocks)
decoded_on [] ys blocks = nothing (decoded ys blocks) where
  nothing : (n : ℕ) → n ≡ 0 + n
  nothing n = omega arith
decoded_on (b ∷ xs) ys blocks =
    ap (λ (n : ℕ). decoded_as b blocks + n) (decoded_on xs ys (opened_by b blocks)) ∙ sums (decoded_as b blocks) (decoded xs (opened_by b blocks)) (decoded ys (blocks_behind xs (opened_by b blocks))) where
      sums : (a n m : ℕ) → a + (n + m) ≡ (a + n) + m
      sums a n m = omega arith

open_on : (xs ys : List ℕ) (blocks : List Bool) → blocks_behind (xs ++ ys) blocks ≡ blocks_behind ys (blocks_behind xs blocks)
open_on [] ys blocks = refl
open_on (b ∷ xs) ys blocks = open_on xs ys (opened_by b blocks)

few_on : (xs ys : List ℕ) (blocks : List Bool) → BlocksAreFew xs blocks → BlocksAreFew ys (blocks_behind xs blocks) → BlocksAreFew (xs ++ ys) blocks
few_on [] ys blocks x y = y
few_on (b ∷ xs) ys blocks x y = (x.0, few_on xs ys (opened_by b blocks) x.1 y)

few_before : (xs ys : List ℕ) (blocks : List Bool) → BlocksAreFew (xs ++ ys) blocks → BlocksAreFew xs blocks
few_before [] ys blocks h = tt
few_before (b ∷ xs) ys blocks h = (h.0, few_before xs ys (opened_by b blocks) h.1)

few_behind : (xs ys : List ℕ) (blocks : List Bool) → BlocksAreFew (xs ++ ys) blocks → BlocksAreFew ys (blocks_behind xs blocks)
few_behind [] ys blocks h = h
few_behind (b ∷ xs) ys blocks h = few_behind xs ys (opened_by b blocks) h.1

-- Where one is decoded as more than an index, so are those that begin with it.
too_far : (xs us : List ℕ) (b index : ℕ) → index < decoded (xs ++ b ∷ []) [] → decoded (xs ++ b ∷ us) [] ≤ index → ⊥
too_far xs us b index more less =
    apart_by (decoded xs []) (decoded_as b (blocks_behind xs [])) (decoded us (opened_by b (blocks_behind xs []))) (decoded (xs ++ b ∷ []) []) (decoded (xs ++ b ∷ us) [])
    (decoded_on xs (b ∷ []) []) (decoded_on xs (b ∷ us) []) more less where
      apart_by : (d x y n m : ℕ) → n ≡ d + (x + 0) → m ≡ d + (x + y) → index < n → m ≤ index → ⊥
      apart_by d x y n m one all more less = omega (arith, one, all, more, less)

-- as how many operations one more is decoded
one_more : (xs : List ℕ) (b count : ℕ) (blocks : List Bool) → blocks ≡ blocks_behind xs [] → count ≡ decoded_as b blocks → decoded (xs ++ b ∷ []) [] ≡ decoded xs [] + count
one_more xs b count blocks stands counts =
    added (decoded xs []) (decoded_as b (blocks_behind xs [])) (decoded (xs ++ b ∷ []) []) (decoded_on xs (b ∷ []) []) (counts ∙ ap (λ (bs : List Bool). decoded_as b bs) stands) where
      added : (d x n : ℕ) → n ≡ d + (x + 0) → count ≡ x → n ≡ d + count
      added d x n e same = omega (arith, e, same)

-- So many instructions stand behind the locals, none of which is the operation of this index, from which so many are left.
pub record Walked (held : List ℕ) (index : ℕ) (blocks : List Bool) (number left at : ℕ) : Type 0 where
  pub groups : ℕ
  pub first : List ℕ
  pub locals : Leaves (u32 groups ⨾ repeated (groups * 2) integer) held first
  pub before : List ℕ
  pub walked : Leaves (items operation before) first (drop at held)
  pub as_many : length before ≡ number
  pub few : BlocksAreFew before []
  pub stands : blocks ≡ blocks_behind before []
  pub passed : left + decoded before [] ≡ index
  pub far : number ≤ at

pub walked_none : {held : List ℕ} (index at : ℕ) (blocks : List Bool) → blocks ≡ [] → (groups : ℕ) × Leaves (u32 groups ⨾ repeated (groups * 2) integer) held (drop at held)
    → Walked held index blocks 0 index at
walked_none {held} index at blocks none l = record {
  groups = l.0;
  first = drop at held;
  locals = l.1;
  before = [];
  walked = no_items operation (drop at held);
  as_many = refl;
  few = tt;
  stands = none;
  passed = all index;
  far = omega arith;
} where
  all : (n : ℕ) → n + 0 ≡ n
  all n = omega arith

abbrev Begins : List ℕ → (at b : ℕ) → Type 0
Begins held at b = (rest : List ℕ) × Leaves (operation b) (drop at held) rest

module _ {held : List ℕ} {index : ℕ} {blocks : List Bool} {number left at : ℕ} (w : Walked held index blocks number left at) where
  shallow : (b : ℕ) (blocks' : List Bool) → blocks' ≡ opened_by b blocks → length blocks' ≤ MAX_NESTING + 1 → BlocksAreFew (w.before ++ b ∷ []) []
  shallow b blocks' opens few =
      few_on w.before (b ∷ []) [] w.few
      (subst (λ (bs : List Bool). length bs ≤ MAX_NESTING + 1) (opens ∙ ap (λ (bs : List Bool). opened_by b bs) w.stands) few, tt)

  below : decoded w.before [] ≤ index
  below = under left (decoded w.before []) w.passed where
    under : (l d : ℕ) → l + d ≡ index → d ≤ index
    under l d e = omega (arith, e)

  pub walked_more : (b next count : ℕ) (blocks' : List Bool) → Leaves (operation b) (drop at held) (drop next held) → at < next → count ≡ decoded_as b blocks → blocks' ≡ opened_by b blocks
      → length blocks' ≤ MAX_NESTING + 1 → (left' : ℕ) → left' + count ≡ left → Walked held index blocks' (number + 1) left' next
  walked_more b next count blocks' here past counts opens few left' takes =
      let many : length w.before ≡ number = w.as_many in
      let far : number ≤ at = w.far in
      record {
        groups = w.groups;
        first = w.first;
        locals = w.locals;
        before = w.before ++ b ∷ [];
        walked = items_push operation w.before b w.first (drop at held) (drop next held) w.walked here;
        as_many = omega (arith, length-append w.before (b ∷ []), many);
        few = shallow b blocks' opens few;
        stands = opens ∙ (ap (λ (bs : List Bool). opened_by b bs) w.stands ∙ sym (open_on w.before (b ∷ []) []));
        passed = less (decoded w.before []) (decoded (w.before ++ b ∷ []) []) w.passed (one_more w.before b count blocks w.stands counts);
        far = omega (arith, far, past);
      } where
        less : (d n : ℕ) → left + d ≡ index → n ≡ d + count → left' + n ≡ index
        less d n e same = omega (arith, e, same, takes)

  -- the instruction that is sought stands here, or behind the one that begins here
  module _ (spot : Spot) (h : IsSpot held index spot) where
    abbrev Here : Type 0
    Here = (drop at held ≡ drop spot.at held) × (h.before ≡ w.before)

    abbrev Later : Type 0
    Later = (u : ℕ) × (us : List ℕ) × (h.before ≡ w.before ++ u ∷ us) × Begins held at u

    same_first : h.first ≡ w.first
    same_first = locals_one (h.groups, h.locals) (w.groups, w.locals)

    it_stands : Here ⊎ Later
    it_stands = by both where
      both : GoesOn operation w.before h.before (drop at held) (drop spot.at held) ⊎ GoesOn operation h.before w.before (drop spot.at held) (drop at held)
      both =
          either free_operation w.before h.before w.first (drop at held) (drop spot.at held) w.walked
          (subst (λ (f : List ℕ). Leaves (items operation h.before) f (drop spot.at held)) same_first h.walked)

      forth : (more : List ℕ) → h.before ≡ w.before ++ more → Leaves (items operation more) (drop at held) (drop spot.at held) → Here ⊎ Later
      forth [] e l = inl (items_none l, e ∙ append-nil w.before)
      forth (u ∷ us) e l = let a = apart l in inr (u, us, e, (a.mid, a.first))

      back : (more : List ℕ) → w.before ≡ h.before ++ more → Leaves (items operation more) (drop spot.at held) (drop at held) → Here ⊎ Later
      back [] e l = inl (sym (items_none l), sym (append-nil h.before) ∙ sym e)
      back (u ∷ us) e l =
          let a = apart l in
          let is : u ≡ spot.opcode = opcode_here held spot.at spot.opcode u h.here a.first in
          absurd (too_far h.before us u index (subst (λ (b : ℕ). index < decoded (h.before ++ b ∷ []) []) (sym is) h.passed)
          (subst (λ (xs : List ℕ). decoded xs [] ≤ index) e below))

      by : GoesOn operation w.before h.before (drop at held) (drop spot.at held) ⊎ GoesOn operation h.before w.before (drop spot.at held) (drop at held) → Here ⊎ Later
      by (inl m) = forth m.more m.longer m.between
      by (inr m) = back m.more m.longer m.between

    within : spot.at < length held
    within = slice_get_within held spot.at spot.opcode h.here

    -- its opcode is the one here
    opcode_same : (b : ℕ) → slice_get held at ≡ Some b → drop at held ≡ drop spot.at held → (at ≡ spot.at) × (b ≡ spot.opcode)
    opcode_same b found e =
        let inside : at < length held = slice_get_within held at b found in
        let there = within in
        let place : at ≡ spot.at = same_place held at spot.at (omega (arith, inside)) (omega (arith, there)) e in
        let one : Some b ≡ Some spot.opcode = sym found ∙ (ap (slice_get held) place ∙ h.here) in
        let same : b ≡ spot.opcode = cc in
        (place, same)

  -- The bytes end here.
  pub none_at_end : length held ≤ at → (spot : Spot) → IsSpot held index spot → ⊥
  none_at_end past spot h = by (it_stands spot h) where
    by : Here spot h ⊎ Later spot h → ⊥
    by (inl e) =
        let long : length (drop at held) ≡ length (drop spot.at held) = ap length e.0 in
        let inside : spot.at < length held = within spot h in
        omega (arith, long, inside, past, length-drop at held, length-drop spot.at held)
    by (inr l) = none_empty free_operation held at past l.0 l.3.0 l.3.1

  -- Too many blocks are open.
  pub none_too_deep : (b : ℕ) → slice_get held at ≡ Some b → MAX_NESTING + 1 < length (opened_by b blocks) → (spot : Spot) → IsSpot held index spot → ⊥
  none_too_deep b found deep spot h = by (it_stands spot h) where
    deeper : (us : List ℕ) → BlocksAreFew (w.before ++ b ∷ us) [] → ⊥
    deeper us few =
        let less : length (opened_by b (blocks_behind w.before [])) ≤ MAX_NESTING + 1 = (few_behind w.before (b ∷ us) [] few).0 in
        let more : MAX_NESTING + 1 < length (opened_by b (blocks_behind w.before [])) =
        subst (λ (bs : List Bool). MAX_NESTING + 1 < length (opened_by b bs)) w.stands deep in
        omega (arith, less, more)

    by : Here spot h ⊎ Later spot h → ⊥
    by (inl e) =
        let is = (opcode_same spot h b found e.0).1 in
        deeper [] (subst (λ (c : ℕ). BlocksAreFew (w.before ++ c ∷ []) []) (sym is) (subst (λ (xs : List ℕ). BlocksAreFew (xs ++ spot.opcode ∷ []) []) e.1 h.few))
    by (inr l) =
        let is : l.0 ≡ b = opcode_here held at b l.0 found l.3.1 in
        let few : BlocksAreFew h.before [] = few_before h.before (spot.opcode ∷ []) [] h.few in
        deeper l.1 (subst (λ (c : ℕ). BlocksAreFew (w.before ++ c ∷ l.1) []) is (subst (λ (xs : List ℕ). BlocksAreFew xs []) l.2 few))

  -- No instruction is whole here, and it isn't sought.
  pub none_whole : (b count : ℕ) → slice_get held at ≡ Some b → count ≡ decoded_as b blocks → count ≤ left → NoneBegins operation (drop at held) → (spot : Spot) → IsSpot held index spot → ⊥
  none_whole b count found counts enough none spot h = by (it_stands spot h) where
    within_left : (d n : ℕ) → left + d ≡ index → n ≡ d + count → index < n → ⊥
    within_left d n e same far = omega (arith, e, same, far, enough)

    by : Here spot h ⊎ Later spot h → ⊥
    by (inl e) =
        let is = (opcode_same spot h b found e.0).1 in
        within_left (decoded w.before []) (decoded (w.before ++ b ∷ []) []) w.passed (one_more w.before b count blocks w.stands counts)
        (subst (λ (c : ℕ). index < decoded (w.before ++ c ∷ []) []) (sym is) (subst (λ (xs : List ℕ). index < decoded (xs ++ spot.opcode ∷ []) []) e.1 h.passed))
    by (inr l) = none l.0 l.3.0 l.3.1

  -- It is sought.
  pub spot_there : (b count : ℕ) (blocks' : List Bool) → slice_get held at ≡ Some b → count ≡ decoded_as b blocks → blocks' ≡ opened_by b blocks → length blocks' ≤ MAX_NESTING + 1
      → left < count → IsTheOne (IsSpot held index) (Some (record { at = at; number = number; opcode = b }))
  spot_there b count blocks' found counts opens few less = (is_spot, same) where
    far : index < decoded (w.before ++ b ∷ []) []
    far = past_left (decoded w.before []) (decoded (w.before ++ b ∷ []) []) w.passed (one_more w.before b count blocks w.stands counts) where
      past_left : (d n : ℕ) → left + d ≡ index → n ≡ d + count → index < n
      past_left d n e same = omega (arith, e, same, less)

    is_spot : IsSpot held index (record { at = at; number = number; opcode = b })
    is_spot = record {
      groups = w.groups;
      first = w.first;
      locals = w.locals;
      before = w.before;
      walked = w.walked;
      as_many = w.as_many;
      here = found;
      few = shallow b blocks' opens few;
      reached = below;
      passed = far;
    }

    same : (spot : Spot) → IsSpot held index spot → spot ≡ record { at = at; number = number; opcode = b }
    same spot h = by (it_stands spot h) where
      by : Here spot h ⊎ Later spot h → spot ≡ record { at = at; number = number; opcode = b }
      by (inl e) =
          let is = opcode_same spot h b found e.0 in
          let numbers : spot.number ≡ number = sym h.as_many ∙ (ap (λ (xs : List ℕ). length xs) e.1 ∙ w.as_many) in
          ap (λ (n : ℕ). record { at = n; number = spot.number; opcode = spot.opcode }) (sym is.0)
          ∙ (ap (λ (n : ℕ). record { at = at; number = n; opcode = spot.opcode }) numbers ∙ ap (λ (n : ℕ). record { at = at; number = number; opcode = n }) (sym is.1))
      by (inr l) =
          let is : l.0 ≡ b = opcode_here held at b l.0 found l.3.1 in
          absurd (too_far w.before l.1 b index far
          (subst (λ (c : ℕ). decoded (w.before ++ c ∷ l.1) [] ≤ index) is (subst (λ (xs : List ℕ). decoded xs [] ≤ index) l.2 h.reached)))

pub no_spot : {held : List ℕ} (index : ℕ) → ((groups : ℕ) → LeavesNone (u32 groups ⨾ repeated (groups * 2) integer) held) → (spot : Spot) → IsSpot held index spot → ⊥
no_spot index none spot h = none h.groups h.first h.locals

pub never_named : {held : List ℕ} {index : ℕ} → ((spot : Spot) → IsSpot held index spot → ⊥) → (spot : Spot) → IsSpot held index spot → name_of_opcode spot.opcode ≡ None
never_named none spot h = absurd (none spot h)

pub unnamed : {held : List ℕ} {index : ℕ} (spot : Spot) → ((b : Spot) → IsSpot held index b → b ≡ spot) → name_of_opcode spot.opcode ≡ None
    → (b : Spot) → IsSpot held index b → name_of_opcode b.opcode ≡ None
unnamed spot same none b h = ap (λ (s : Spot). name_of_opcode s.opcode) (same b h) ∙ none

-- ---- bodies

pub unspelled_code : {bytes : List ℕ} (body index : ℕ) → ((s : Section) (rest : List ℕ) → FirstSection bytes 10 s rest → ⊥) → IsUnspelled bytes body index
unspelled_code body index none begin from to code spot h = absurd (none _ _ (first_section code.3))

pub unspelled_body : {bytes : List ℕ} {code held end : ℕ} (body index : ℕ) → FirstSectionAt bytes 10 code held end → ((at from to : ℕ) → BodyAt bytes held body at from to → ⊥)
    → IsUnspelled bytes body index
unspelled_body body index s none begin from to there spot h = absurd (none_there s none there) where
  none_there : {bytes : List ℕ} {code held end begin from to : ℕ} → FirstSectionAt bytes 10 code held end → ((at from to : ℕ) → BodyAt bytes held body at from to → ⊥) → CodeAt bytes body begin from to → ⊥
  none_there {bytes} {code} {held} {end} {begin} {from} {to} s none there = none begin from to (rw (section_same there.3 s) at there.4)

-- what is told of the body that was found
pub unspelled_spot : {bytes : List ℕ} {code held end at from to : ℕ} (body index : ℕ) → FirstSectionAt bytes 10 code held end → BodyAt bytes held body at from to
    → ((spot : Spot) → IsSpot (slice_range bytes from to) index spot → name_of_opcode spot.opcode ≡ None) → IsUnspelled bytes body index
unspelled_spot {bytes} {code} {held} {end} {at} {from} {to} body index s x none begin from' to' there spot h =
    let e = code_same s x there in
    none spot (subst (λ (f : ℕ). IsSpot (slice_range bytes f to) index spot) (sym e.0) (subst (λ (t : ℕ). IsSpot (slice_range bytes from' t) index spot) (sym e.1) h))
