-- A valid module keeps every rule that a refusal may name.
use Rattle.validate.proofs.Words.{body_context, label_types, Mutabilities, NamesLabels, StoreNarrow, type_of_block, type_of_function, type_or_none, ValidImport}
use Rattle.validate.proofs.Words.{Alignments, BlockType, GlobalGet, HasFew, InstrTyped, LoadNarrow, MemoryGrow, MemorySize, Structured, ValidFault, ValidModule}
use Rattle.validate.proofs.Words.{BrTable, Contents, Context, FuncType, GlobalSet, inl, KeepsType, LocalGet, LocalSet, LocalTee, shape_of, slice_get, ValidFunc}
use Rattle.validate.proofs.Words.{IfSome, Import, Indexes, inr, inside, Instr, IsLow, IsNamed, IsSome, IsTyped, KeptIn, Labels, Option, Plain, Refutes, ValType}
use Rattle.validate.proofs.Words.{ap, Br, BrIf, Call, Code, Done, Func, If, Kept, List, Load, None, refl, Rule, Some, Store, sym, Typed, ℕ, [], ◌≡◌, ◌⊎◌}
use Rattle.syntax.specs.declared.instruction.Instr.TheVariants.{CallIndirect}
use Rattle.validate.specs.declared.fault.ValidFault.TheVariants as fault
use Rattle.valid.specs.Typing.{HasFunctionType}
use Rattle.validate.specs.Rules.{NamesAll, IsAligned, SetsVariables, Keeps}
use Rattle.validate.specs.Sites.{BreaksAt}
use Rattle.validate.specs.declared.site.InvalidAt.{InvalidAt}
use Rattle.validate.proofs.Refused.{refutes_at}
use Rattle.std.specs.Prelude.{Result, Ok, Err, OnOk, IfErr, MatchOption}
use Rattle.std.specs.Result.{result_err}
use Rattle.valid.proofs.Items.{same_some}

names_all : (c : Context) (i : Instr) (before after : List ValType) → InstrTyped c i before after → NamesAll c i
names_all c (Call f) before after t = rw t.1.1 (rw t.1.2 refl)
names_all c (CallIndirect f) before after t = (t.0, rw t.2 refl)
names_all c (LocalGet x) before after t = rw t.1 refl
names_all c (LocalSet x) before after t = rw t.1 refl
names_all c (LocalTee x) before after t = rw t.1 refl
names_all c (GlobalGet x) before after t = rw t.1 refl
names_all c (GlobalSet x) before after t = rw t.1 refl
names_all c (Load v at) before after t = t.0.0
names_all c (LoadNarrow v width extension at) before after t = t.0.0
names_all c (Store v at) before after t = t.0.0
names_all c (StoreNarrow v width at) before after t = t.0.0
names_all c MemorySize before after t = t.0
names_all c MemoryGrow before after t = t.0
names_all c _ before after t = tt

pub names_labels : (c : Context) (i : Instr) (before after : List ValType) → InstrTyped c i before after → NamesLabels c i
names_labels c (Br label) before after t = rw t.1.0 refl
names_labels c (BrIf label) before after t = rw t.1 refl
names_labels c (BrTable labels default) before after t = (λ i d lt. rw (t.1 i d lt) refl, rw t.2 refl)
names_labels c _ before after t = tt

is_aligned : (c : Context) (i : Instr) (before after : List ValType) → InstrTyped c i before after → IsAligned i
is_aligned c (Load v at) before after t = t.0.1
is_aligned c (LoadNarrow v width extension at) before after t = t.0.1
is_aligned c (Store v at) before after t = t.0.1
is_aligned c (StoreNarrow v width at) before after t = t.0.1
is_aligned c _ before after t = tt

sets_variables : (c : Context) (i : Instr) (before after : List ValType) → InstrTyped c i before after → SetsVariables c i
sets_variables c (GlobalSet x) before after t =
    λ g e. rw (same_some t.0 g (slice_get c.module_contents.globals x) t.1 e) at t.2
sets_variables c _ before after t = tt

keeps : (r : Rule) (c : Context) (i : Instr) (before after : List ValType) → InstrTyped c i before after → Keeps r c i
keeps Indexes = names_all
keeps Labels = names_labels
keeps Alignments = is_aligned
keeps Mutabilities = sets_variables

keeps_type : (r : Rule) (c : Context) (b : BlockType) (t : FuncType) → type_of_block c.module_contents b ≡ Some t → KeepsType r c b
keeps_type Indexes c b t e = rw e refl
keeps_type Labels c b t e = tt
keeps_type Alignments c b t e = tt
keeps_type Mutabilities c b t e = tt

shape_is : (c : Context) (b : BlockType) (t : FuncType) → type_of_block c.module_contents b ≡ Some t → t ≡ shape_of c.module_contents b
shape_is c b t e = sym (ap type_or_none e)

-- what is typed keeps each rule
kept : (r : Rule) (c : Context) (code : Code) (before after : List ValType) → Typed c code before after → Kept r c code
kept r c Done before after t = tt
kept r c (Plain i rest) before after t = (keeps r c i before t.0 t.1, kept r c rest t.0 after t.2)
kept r c (Structured kind b body rest) before after t = (
  keeps_type r c b t.0 t.1,
  rw (shape_is c b t.0 t.1) at (kept r (inside (label_types kind t.0) c) body _ _ t.4),
  kept r c rest _ after t.5,
)
kept r c (If b first second rest) before after t = (
  keeps_type r c b t.0 t.1,
  rw (shape_is c b t.0 t.1) at (kept r (inside t.0.results c) first _ _ t.4),
  rw (shape_is c b t.0 t.1) at (kept r (inside t.0.results c) second _ _ t.5),
  kept r c rest _ after t.6,
)

kept_in : (r : Rule) (m : Contents) (f : Func) → ValidFunc m f → KeptIn r m f
kept_in r m f v type e =
    let same : v.type ≡ type = same_some v.type type (slice_get m.types f.type_index) v.known e in
    rw same at (kept r (body_context m v.type f) f.body _ _ v.body)

is_low : (m : Contents) (f : Func) → ValidFunc m f → IsLow m f
is_low m f v type e =
    let same : v.type ≡ type = same_some v.type type (slice_get m.types f.type_index) v.known e in
    rw (sym same) (v.few_locals, v.height)

is_typed : (m : Contents) (f : Func) → ValidFunc m f → IsTyped m f
is_typed m f v type e =
    let same : v.type ≡ type = same_some v.type type (slice_get m.types f.type_index) v.known e in
    rw same at v.body

has_few : (m : Contents) (i : Import) → ValidImport m i → HasFew m i
has_few m i v type e = rw (same_some v.type type (slice_get m.types i.type_index) v.known e) at v.few_results

starts : (m : Contents) (s : Option ℕ) → IfSome s (λ f. HasFunctionType m f (record { params = []; results = [] })) → IfSome s (λ f. IsSome (type_of_function m f))
starts m None h = tt
starts m (Some f) h = rw h.1 (rw h.2 refl)

is_named : (m : Contents) → ValidModule m → IsNamed m
is_named m v = record {
  imports = λ i d lt. rw (v.imports i d lt).known refl;
  functions = λ i d lt. let f = v.functions i d lt in (rw f.known refl, kept_in Indexes m _ f);
  exports = v.exports;
  start = starts m m.start v.start;
  elements = λ i d lt. let e = v.elements i d lt in (e.table.0, e.table.1, e.functions);
  data_segments = λ i d lt. (v.data_segments i d lt).memory;
}

-- a refusal that isn't for want of memory is of no valid module
pub refuted : (m : Contents) (e : ValidFault) → Refutes m e → (e ≡ fault.Memory) ⊎ (ValidModule m → ⊥)
refuted m fault.Memory r = inl refl
refuted m fault.BadType r = inr (λ v. r (λ i d lt. is_typed m _ (v.functions i d lt)))
refuted m fault.Index r = inr (λ v. r (is_named m v))
refuted m fault.Label r = inr (λ v. r (λ i d lt. kept_in Labels m _ (v.functions i d lt)))
refuted m fault.Align r = inr (λ v. r (λ i d lt. kept_in Alignments m _ (v.functions i d lt)))
refuted m fault.Mutability r = inr (λ v. r (λ i d lt. kept_in Mutabilities m _ (v.functions i d lt)))
refuted m fault.Result r = inr (λ v. r (v.types, λ i d lt. has_few m _ (v.imports i d lt)))
refuted m fault.Export r = inr (λ v. r v.distinct)
refuted m fault.Start r = inr (λ v. r v.start)
refuted m fault.Constant r = inr (λ v. r (v.globals, λ i d lt. (v.elements i d lt).offset, λ i d lt. (v.data_segments i d lt).offset))
refuted m fault.Height r = inr (λ v. r (λ i d lt. is_low m _ (v.functions i d lt)))
refuted m fault.Nesting r = inr (λ v. r (λ i d lt. (v.functions i d lt).nested))

-- what is told of a module, or of one that is valid
pub told_err : {X : Type 0} (m : Contents) (checked : Result X InvalidAt) → OnOk checked (ValidModule m) → IfErr checked (λ (r : InvalidAt). BreaksAt m r.fault r.site)
    → MatchOption (result_err checked) (ValidModule m) (λ (r : InvalidAt). Refutes m r.fault)
told_err m (Ok x) valid broken = valid
told_err m (Err r) valid broken = refutes_at m r.fault r.site broken

pub invalid_err : {X : Type 0} (m : Contents) (checked : Result X InvalidAt) → IfErr checked (λ (r : InvalidAt). BreaksAt m r.fault r.site)
    → IfSome (result_err checked) (λ (r : InvalidAt). (r.fault ≡ fault.Memory) ⊎ (ValidModule m → ⊥))
invalid_err m (Ok x) broken = tt
invalid_err m (Err r) broken = refuted m r.fault (refutes_at m r.fault r.site broken)
