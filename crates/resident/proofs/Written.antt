-- A write into a store's memory leaves a store of the module.
use Rattle.std.proofs.Common.{◌≡◌, ℕ, ◌+◌, ◌≤◌, Bool, true, false, List, ◌++◌, length, take, drop, Some, None, refl, ◌∙◌, arith, length-append, length-drop}
use Rattle.std.specs.Prelude.{nat_le, if◌then◌else◌}
use Rattle.std.proofs.lemmas.Grind.{common_steps}
use Rattle.std.proofs.lemmas.List.{length-take-le}
use Rattle.syntax.specs.declared.contents.Contents.{Contents}
use Rattle.valid.specs.Segments.{minimum}
use Rattle.instance.specs.Store.{Store, MemoryInstance, memory_of, with_memory_instance}
use Rattle.instance.specs.Reads.{Wrote, WritesAt}
use Rattle.instance.specs.Storing.{IsStoreOf, HasPages}

over_length : (at : ℕ) (xs old : List ℕ) → at + length xs ≤ length old → length (take at old ++ (xs ++ drop (at + length xs) old)) ≡ length old
over_length at xs old h =
    let a : at ≤ length old = omega arith in
    length-append (take at old) (xs ++ drop (at + length xs) old) ∙ omega (arith, length-take-le at old a, length-append xs (drop (at + length xs) old), length-drop (at + length xs) old)

same_pages : (limit least : ℕ) (a b : List ℕ) → length b ≡ length a → HasPages limit least a → HasPages limit least b
same_pages limit least a b e k = record { count = k.count; whole = e ∙ k.whole; enough = k.enough; within = k.within }

at_least : (a b : ℕ) → nat_le a b ≡ true → a ≤ b
at_least a b e = grind (arith, common_steps)

module _ (m : Contents) (s : Store) (at : ℕ) (bytes : List ℕ) where
  abbrev after : List ℕ
  after = take at s.memory ++ (bytes ++ drop (at + length bytes) s.memory)

  by_test : (fits answer : Bool) (b : MemoryInstance) → nat_le (at + length bytes) (length s.memory) ≡ fits
      → Wrote (if fits then Some after else None) answer (memory_of s) b → IsStoreOf m s → IsStoreOf m (with_memory_instance b s)
  by_test true answer b h w k =
      let room : at + length bytes ≤ length s.memory = at_least (at + length bytes) (length s.memory) h in
      rw w.1
      (record {
        globals = k.globals;
        table = k.table;
        elements = k.elements;
        limit = k.limit;
        memory = same_pages s.limit (minimum m.memory) s.memory after (over_length at bytes s.memory room) k.memory;
      })
  by_test false answer b h w k = rw w.1 k

  pub written_keeps : (answer : Bool) (b : MemoryInstance) → WritesAt at bytes answer (memory_of s) b → IsStoreOf m s → IsStoreOf m (with_memory_instance b s)
  written_keeps answer b w k = by_test (nat_le (at + length bytes) (length s.memory)) answer b refl w k
