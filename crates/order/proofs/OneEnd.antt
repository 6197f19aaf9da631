-- An order has one end.
use Rattle.order.proofs.Words.{ap, AreNamedApart, Call, codes, Computes, Contents, EndsAs, ExportsFunction, HostCall, I32, Import, Imports, InCopy, InLen}
use Rattle.order.proofs.Words.{IsFresh, List, None, Now, Option, OutSet, refl, Returned, RunEnd, slice_get, Some, StartRun, Store, subst, sym, ValidModule}
use Rattle.order.proofs.Words.{Value, WorkEnd, WorkOrder, ℕ, [], ◌+◌, ◌-◌, ◌∙◌, ◌∷◌, ◌≡◌}
use Rattle.syntax.specs.declared.contents.ModuleExport.{ModuleExport}
use Rattle.valid.specs.Valid.{DistinctNames}
use Rattle.reduction.specs.Hosting.{IsDetermined}
use Rattle.reduction.proofs.OneCall.{one_call}
use Rattle.order.specs.Uv.Bytes.{copied_in, set_out}
use Rattle.order.specs.Work.{GivesAnswer, WorkAnswers, WorkCall, WorkRun, Works, stops, works}

-- an import is one function of the host
pub one_import : AreNamedApart → (m : Contents) (number : ℕ) (f g : Call) → Imports m number f → Imports m number g → f ≡ g
one_import apart m number f g (i, at, is) (j, at', is') =
    let both : Some i ≡ Some j = sym at ∙ at' in
    let same : i ≡ j = cc in
    apart f g (is.named ∙ ap (λ (x : Import). x.name) same ∙ sym is'.named)

-- a valid module exports one function under a name
pub one_export : (m : Contents) (name : List ℕ) (f g : ℕ) → DistinctNames m → ExportsFunction m name f → ExportsFunction m name g → f ≡ g
one_export m name f g distinct (i, a, at, named, kind, is) (j, b, at', named', kind', is') =
    let place : i ≡ j = distinct i j a b at at' (sym named ∙ named') in
    let both : Some a ≡ Some b = sym at ∙ ap (λ (k : ℕ). slice_get m.exports k) place ∙ at' in
    let same : a ≡ b = cc in
    sym is ∙ ap (λ (x : ModuleExport). x.index) same ∙ is'

-- the answers of two calls are the same
record SameAnswers (call call' : HostCall) (new new' : List ℕ) : Type 0 where
  answer : call.answer ≡ call'.answer
  after : call.after ≡ call'.after
  reply : new ≡ new'

gives_one : (call call' : HostCall) (new new' : List ℕ) (answer answer' : ℕ) (memory memory' reply reply' : List ℕ)
    → answer ≡ answer' → memory ≡ memory' → reply ≡ reply' → GivesAnswer call new answer memory reply → GivesAnswer call' new' answer' memory' reply'
    → SameAnswers call call' new new'
gives_one call call' new new' answer answer' memory memory' reply reply' a m r (ga, gm, gr) (ga', gm', gr') =
    record { answer = cc; after = cc; reply = cc }

answers_one : (bytes old : List ℕ) (call call' : HostCall) (new new' : List ℕ) (f : Call) (args : List Value) → call.before ≡ call'.before
    → WorkAnswers bytes old call new f args → WorkAnswers bytes old call' new' f args → SameAnswers call call' new new'
answers_one bytes old call call' new new' InLen [] same g g' = gives_one call call' new new' _ _ _ _ _ _ refl same refl g g'
answers_one bytes old call call' new new' InCopy (I32 to ∷ I32 from ∷ I32 count ∷ []) same g g' =
    let copied = ap (λ (memory : List ℕ). copied_in (Some bytes) to from count memory) same in
    gives_one call call' new new' _ _ _ _ _ _ (ap (λ (x : ℕ × List ℕ). x.0) copied) (ap (λ (x : ℕ × List ℕ). x.1) copied) refl g g'
answers_one bytes old call call' new new' OutSet (I32 place ∷ I32 count ∷ []) same g g' =
    let set = ap (λ (memory : List ℕ). set_out place count memory old) same in
    gives_one call call' new new' _ _ _ _ _ _ (ap (λ (x : ℕ × List ℕ). x.0) set) same (ap (λ (x : ℕ × List ℕ). x.1) set) g g'
answers_one bytes old call call' new new' Now args same (a, m, r) (a', m', r') = record { answer = cc; after = cc; reply = cc }
answers_one bytes old call call' new new' _ args same g g' = gives_one call call' new new' _ _ _ _ _ _ refl same refl g g'

-- an ending reads as one end
reads_one : (outcome : RunEnd) (reply : List ℕ) (e e' : WorkEnd) → EndsAs outcome reply e → EndsAs outcome reply e' → e ≡ e'
reads_one (Returned (I32 value ∷ [])) reply e e' h k = h ∙ sym k
reads_one (Returned _) reply e e' h k = absurd h
reads_one _ reply e e' h k = h ∙ sym k

ends_one : (outcome outcome' : RunEnd) (reply reply' : List ℕ) (e e' : WorkEnd) → outcome ≡ outcome' → reply ≡ reply'
    → EndsAs outcome reply e → EndsAs outcome' reply' e' → e ≡ e'
ends_one outcome outcome' reply reply' e e' same same' h k =
    reads_one outcome reply e e' h (subst (λ (x : RunEnd). EndsAs x reply e') (sym same) (subst (λ (x : List ℕ). EndsAs outcome' x e') (sym same') k))

module _ (apart : AreNamedApart) (o : WorkOrder) where
  calls_one : IsDetermined (λ (reply : List ℕ). reply) (WorkCall o)
  calls_one old old' new new' call call' seen asked (f, is, answers) (f', is', answers') =
      let function : f' ≡ f = one_import apart o.loaded.contents call.function f' f (subst (λ (n : ℕ). Imports o.loaded.contents n f') (sym asked.function) is') is in
      let there : WorkAnswers o.bytes old call' new' f call.args =
      subst (λ (g : Call). WorkAnswers o.bytes old call' new' g call.args) function
      (subst (λ (args : List Value). WorkAnswers o.bytes old call' new' f' args) (sym asked.args)
      (subst (λ (reply : List ℕ). WorkAnswers o.bytes reply call' new' f' call'.args) (sym seen) answers')) in
      let one = answers_one o.bytes old call call' new new' f call.args asked.before answers there in
      (λ i. record { function = asked.function i; args = asked.args i; before = asked.before i; answer = one.answer i; after = one.after i }, one.reply)

  runs_one : (fuel : ℕ) (s : Store) (old : List ℕ) (function : ℕ) (args : List Value) (e e' : RunEnd) (u u' : ℕ) (t t' : Store) (new new' : List ℕ)
      → WorkRun o fuel s old function args e u t new → WorkRun o fuel s old function args e' u' t' new'
      → (e ≡ e') × (u ≡ u') × (t ≡ t') × (new ≡ new')
  runs_one fuel s old function args e e' u u' t t' new new' r r' =
      let one =
      one_call o.loaded.contents o.depth (λ (reply : List ℕ). reply) (WorkCall o) calls_one fuel s function args r.trace r'.trace e e' u u' t t' old old new
      new' refl r.run r.answers r'.run r'.answers in
      (one.1, one.2, one.3, one.4)

  starts_one : (start : Option ℕ) (s : Store) (e e' : RunEnd) (u u' : ℕ) (t t' : Store) (reply reply' : List ℕ)
      → StartRun o start s e u t reply → StartRun o start s e' u' t' reply' → (e ≡ e') × (u ≡ u') × (t ≡ t') × (reply ≡ reply')
  starts_one None s e e' u u' t t' reply reply' (a, b, c, d) (a', b', c', d') = (a ∙ sym a', b ∙ sym b', c ∙ sym c', d ∙ sym d')
  starts_one (Some function) s e e' u u' t t' reply reply' r r' = runs_one o.fuel s [] function [] e e' u u' t t' reply reply' r r'

  fresh_one : (s s' : Store) → IsFresh o.loaded.contents s → IsFresh o.loaded.contents s' → s ≡ s'
  fresh_one s s' fresh fresh' = fresh.store ∙ sym fresh'.store

  begun_one : (s s' : Store) (e e' : RunEnd) (u u' : ℕ) (t t' : Store) (reply reply' : List ℕ) → IsFresh o.loaded.contents s → IsFresh o.loaded.contents s'
      → StartRun o o.loaded.contents.start s e u t reply → StartRun o o.loaded.contents.start s' e' u' t' reply' → (e ≡ e') × (u ≡ u') × (t ≡ t') × (reply ≡ reply')
  begun_one s s' e e' u u' t t' reply reply' fresh fresh' r r' =
      let again = subst (λ (x : Store). StartRun o o.loaded.contents.start x e' u' t' reply') (fresh_one s' s fresh' fresh) r' in
      starts_one o.loaded.contents.start s e e' u u' t t' reply reply' r again

  pub one_run : (e e' : WorkEnd) (u u' : ℕ) → ValidModule o.loaded.contents → Computes o e u → Computes o e' u' → (e ≡ e') × (u ≡ u')
  one_run e e' u u' valid (stops s t outcome reply fresh run not end) (stops s' t' outcome' reply' fresh' run' not' end') =
      let one = begun_one s s' outcome outcome' u u' t t' reply reply' fresh fresh' run run' in
      (ends_one outcome outcome' reply reply' e e' one.0 one.3 end end', one.1)
  one_run e e' u u' valid (stops s t outcome reply fresh run not end) (works s' t' v' results' outcome' first' second' reply' last' function' fresh' started' exported' run' used' end') =
      let one = begun_one s s' outcome (Returned results') u first' t t' reply reply' fresh fresh' run started' in
      absurd (not results' one.0)
  one_run e e' u u' valid (works s t v results outcome first second reply last function fresh started exported run used end) (stops s' t' outcome' reply' fresh' run' not' end') =
      let one = begun_one s s' (Returned results) outcome' first u' t t' reply reply' fresh fresh' started run' in
      absurd (not' results (sym one.0))
  one_run e e' u u' valid (works s t v results outcome first second reply last function fresh started exported run used end)
      (works s' t' v' results' outcome' first' second' reply' last' function' fresh' started' exported' run' used' end') =
      let one = begun_one s s' (Returned results) (Returned results') first first' t t' reply reply' fresh fresh' started started' in
      let named : function' ≡ function = one_export o.loaded.contents (codes "uv_work") function' function valid.distinct exported' exported in
      let again : WorkRun o (o.fuel - first) t reply function (I32 o.op ∷ []) outcome' second' v' last' =
      subst (λ (f : ℕ). WorkRun o (o.fuel - first) t reply f (I32 o.op ∷ []) outcome' second' v' last') named
      (subst (λ (x : List ℕ). WorkRun o (o.fuel - first) t x function' (I32 o.op ∷ []) outcome' second' v' last') (sym one.3)
      (subst (λ (x : Store). WorkRun o (o.fuel - first) x reply' function' (I32 o.op ∷ []) outcome' second' v' last') (sym one.2)
      (subst (λ (x : ℕ). WorkRun o (o.fuel - x) t' reply' function' (I32 o.op ∷ []) outcome' second' v' last') (sym one.1) run'))) in
      let both = runs_one (o.fuel - first) t reply function (I32 o.op ∷ []) outcome outcome' second second' v v' last last' run again in
      (ends_one outcome outcome' last last' e e' both.0 both.3 end end', used ∙ (λ i. one.1 i + both.1 i) ∙ sym used')

  pub one_end : (e e' : WorkEnd) → ValidModule o.loaded.contents → Works o e → Works o e' → e ≡ e'
  one_end e e' valid (u, h) (u', h') = (one_run e e' u u' valid h h').0
