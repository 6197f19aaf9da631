-- Two runs from one start.
use Rattle.reduction.proofs.Words.{ap, arith, as_operands, Calls, Contents, Context, Ends, entered, frames, Func, FuncType, Goes, HostCall, IsCharged}
use Rattle.reduction.proofs.Words.{IsDefined, IsDetermined, IsImported, Lawful, List, Move, next, OutOfFuel, receiving, refl, Returned, Run, RunEnd, slice_get}
use Rattle.reduction.proofs.Words.{Some, Store, suc, sym, TooDeep, Trapped, Traps, Value, with_memory, zero, ℕ, [], ◌+◌, ◌<◌, ◌∙◌, ◌∷◌, ◌≡◌, ◌≤◌}
use Rattle.reduction.specs.Run.{ends, traps, spent, too_deep, goes, calls, asks, RunsWithin}

-- a function is defined by one type and one body
pub one_function : (m : Contents) (function : ℕ) (type type' : FuncType) (f f' : Func) → IsDefined m function type f → IsDefined m function type' f' → (type ≡ type') × (f ≡ f')
one_function m function type type' f f' (i, e, found, known) (i', e', found', known') =
    let at : i ≡ i' = omega arith in
    let same : Some f ≡ Some f' = sym found ∙ ap (λ (k : ℕ). slice_get m.functions k) at ∙ found' in
    let func : f ≡ f' = cc in
    let types : Some type ≡ Some type' = sym known ∙ ap (λ (g : Func). slice_get m.types g.type_index) func ∙ known' in
    (cc, func)

pub not_both : (m : Contents) (function : ℕ) (type : FuncType) (f : Func) → IsDefined m function type f → IsImported m function → ⊥
not_both m function type f (i, e, found, known) imported = omega arith

pub some_charge : (charge : ℕ) (s : Store) (contexts : List Context) → IsCharged (Goes charge s contexts) → 0 < charge
some_charge zero s contexts charged = absurd charged
some_charge (suc n) s contexts charged = omega arith

module _ (m : Contents) (depth : ℕ) where
  -- a run, by its first step
  data Begins (s : Store) : Move → List HostCall → RunEnd → ℕ → Store → Type 0 where
    ending : (results : List Value) → Begins s (Ends results) [] (Returned results) 0 s
    trapping : (trap : ℕ) → Begins s (Traps trap) [] (Trapped trap) 1 s
    stopping : (move : Move) → IsCharged move → Begins s move [] OutOfFuel 0 s
    refusing : (function : ℕ) (args : List Value) (below : List Context) (type : FuncType) (f : Func)
        → IsDefined m function type f → depth ≤ frames below → Begins s (Calls function args below) [] TooDeep 1 s
    going : {s' t : Store} {there : List Context} {trace : List HostCall} {outcome : RunEnd} {used : ℕ} (charge : ℕ)
        → Run m depth s' there trace outcome used t → Begins s (Goes charge s' there) trace outcome (charge + used) t
    calling : {t : Store} {trace : List HostCall} {outcome : RunEnd} {used : ℕ}
        (function : ℕ) (args : List Value) (below : List Context) (type : FuncType) (f : Func)
        → IsDefined m function type f → frames below < depth → Run m depth s (entered type f args below) trace outcome used t
        → Begins s (Calls function args below) trace outcome (1 + used) t
    asking : {t : Store} {trace : List HostCall} {outcome : RunEnd} {used : ℕ} (function : ℕ) (args : List Value) (below : List Context) (call : HostCall)
        → call.function ≡ function → call.args ≡ args → IsImported m function → call.before ≡ s.memory
        → Run m depth (with_memory call.after s) (receiving (as_operands call.answer) below) trace outcome used t
        → Begins s (Calls function args below) (call ∷ trace) outcome (1 + used) t

  begins : {s : Store} {contexts : List Context} {trace : List HostCall} {outcome : RunEnd} {used : ℕ} {t : Store}
      → Run m depth s contexts trace outcome used t → Begins s (next m s contexts) trace outcome used t
  begins (ends results e) = rw e (ending results)
  begins (traps trap e) = rw e (trapping trap)
  begins {s} {contexts} (spent charged) = stopping (next m s contexts) charged
  begins (too_deep function args below type f e defined deep) = rw e (refusing function args below type f defined deep)
  begins (goes charge e run) = rw e (going charge run)
  begins (calls function args below type f e defined few run) = rw e (calling function args below type f defined few run)
  begins (asks call below e imported before run) = rw e (asking call.function call.args below call refl refl imported before run)

  module _ {H V : Type 0} (see : H → V) (moves : H → HostCall → H → Type 0) (determined : IsDetermined see moves) where
    -- Both runs are the same, or one of them stops earlier, where its fuel is spent.
    data Compared (trace trace' : List HostCall) (o o' : RunEnd) (u u' : ℕ) (t t' : Store) (h h' : H) : Type 0 where
      same : trace ≡ trace' → o ≡ o' → u ≡ u' → t ≡ t' → see h ≡ see h' → Compared trace trace' o o' u u' t t' h h'
      first : o ≡ OutOfFuel → u < u' → Compared trace trace' o o' u u' t t' h h'
      second : o' ≡ OutOfFuel → u' < u → Compared trace trace' o o' u u' t t' h h'

    unmoved : (old old' new new' : H) → see old ≡ see old' → new ≡ old → new' ≡ old' → see new ≡ see new'
    unmoved old old' new new' seen here there = ap see here ∙ seen ∙ sym (ap see there)

    later : {trace trace' : List HostCall} {o o' : RunEnd} {u u' : ℕ} {t t' : Store} {h h' : H} (n : ℕ)
        → Compared trace trace' o o' u u' t t' h h' → Compared trace trace' o o' (n + u) (n + u') t t' h h'
    later n (same a b c d e) = same a b (ap (λ (k : ℕ). n + k) c) d e
    later n (first e l) = first e (omega arith)
    later n (second e l) = second e (omega arith)

    asked_too : {trace trace' : List HostCall} {o o' : RunEnd} {u u' : ℕ} {t t' : Store} {h h' : H} (call call' : HostCall) → call ≡ call'
        → Compared trace trace' o o' u u' t t' h h' → Compared (call ∷ trace) (call' ∷ trace') o o' (1 + u) (1 + u') t t' h h'
    asked_too call call' k (same a b c d e) = same (cc) b (ap (λ (k : ℕ). 1 + k) c) d e
    asked_too call call' k (first e l) = first e (omega arith)
    asked_too call call' k (second e l) = second e (omega arith)

    -- the other run, whatever it is, is comparable to this one
    abbrev Comparable : (s : Store) (contexts : List Context) (trace : List HostCall) (o : RunEnd) (u : ℕ) (t : Store) (old new : H) → Type 0
    Comparable s contexts trace o u t old new =
        (trace' : List HostCall) (o' : RunEnd) (u' : ℕ) (t' : Store) (old' new' : H) → see old ≡ see old' → Run m depth s contexts trace' o' u' t' → Lawful moves trace' old' new'
        → Compared trace trace' o o' u u' t t' new new'

    end_alike : (s : Store) (contexts : List Context) (results : List Value) (old new : H) → next m s contexts ≡ Ends results → new ≡ old
        → Comparable s contexts [] (Returned results) 0 s old new
    end_alike s contexts results old new e here trace' o' u' t' old' new' seen run lawful = by_start (rw e at (begins run)) lawful where
      by_start : {trace' : List HostCall} {o' : RunEnd} {u' : ℕ} {t' : Store} → Begins s (Ends results) trace' o' u' t' → Lawful moves trace' old' new'
          → Compared [] trace' (Returned results) o' 0 u' s t' new new'
      by_start (ending _) there = same refl refl refl refl (unmoved old old' new new' seen here there)
      by_start (stopping _ charged) there = absurd charged

    trap_alike : (s : Store) (contexts : List Context) (trap : ℕ) (old new : H) → next m s contexts ≡ Traps trap → new ≡ old
        → Comparable s contexts [] (Trapped trap) 1 s old new
    trap_alike s contexts trap old new e here trace' o' u' t' old' new' seen run lawful = by_start (rw e at (begins run)) lawful where
      by_start : {trace' : List HostCall} {o' : RunEnd} {u' : ℕ} {t' : Store} → Begins s (Traps trap) trace' o' u' t' → Lawful moves trace' old' new'
          → Compared [] trace' (Trapped trap) o' 1 u' s t' new new'
      by_start (trapping _) there = same refl refl refl refl (unmoved old old' new new' seen here there)
      by_start (stopping _ charged) there = second refl (omega arith)

    stop_alike : (s : Store) (contexts : List Context) (old new : H) → IsCharged (next m s contexts) → new ≡ old
        → Comparable s contexts [] OutOfFuel 0 s old new
    stop_alike s contexts old new charged here trace' o' u' t' old' new' seen run lawful = by_start (begins run) charged lawful where
      by_start : {move : Move} {trace' : List HostCall} {o' : RunEnd} {u' : ℕ} {t' : Store} → Begins s move trace' o' u' t' → IsCharged move → Lawful moves trace' old' new'
          → Compared [] trace' OutOfFuel o' 0 u' s t' new new'
      by_start (ending _) costs there = absurd costs
      by_start (stopping _ _) costs there = same refl refl refl refl (unmoved old old' new new' seen here there)
      by_start (going zero _) costs there = absurd costs
      by_start (going (suc n) _) costs there = first refl (omega arith)
      by_start _ costs there = first refl (omega arith)

    refuse_alike : (s : Store) (contexts : List Context) (function : ℕ) (args : List Value) (below : List Context) (type : FuncType) (f : Func) (old new : H)
        → next m s contexts ≡ Calls function args below → IsDefined m function type f → depth ≤ frames below → new ≡ old
        → Comparable s contexts [] TooDeep 1 s old new
    refuse_alike s contexts function args below type f old new e defined deep here trace' o' u' t' old' new' seen run lawful = by_start (rw e at (begins run)) lawful where
      by_start : {trace' : List HostCall} {o' : RunEnd} {u' : ℕ} {t' : Store} → Begins s (Calls function args below) trace' o' u' t' → Lawful moves trace' old' new'
          → Compared [] trace' TooDeep o' 1 u' s t' new new'
      by_start (stopping _ _) there = second refl (omega arith)
      by_start (refusing _ _ _ _ _ _ _) there = same refl refl refl refl (unmoved old old' new new' seen here there)
      by_start (calling _ _ _ _ _ _ few _) there = absurd (omega arith)
      by_start (asking _ _ _ _ _ _ imported _ _) there = absurd (not_both m function type f defined imported)

    go_alike : (s s' t : Store) (contexts there : List Context) (trace : List HostCall) (o : RunEnd) (charge u : ℕ) (old new : H)
        → next m s contexts ≡ Goes charge s' there → Comparable s' there trace o u t old new → Comparable s contexts trace o (charge + u) t old new
    go_alike s s' t contexts there trace o charge u old new e rest trace' o' u' t' old' new' seen run lawful = by_start (rw e at (begins run)) lawful where
      by_start : {trace' : List HostCall} {o' : RunEnd} {u' : ℕ} {t' : Store} → Begins s (Goes charge s' there) trace' o' u' t' → Lawful moves trace' old' new'
          → Compared trace trace' o o' (charge + u) u' t t' new new'
      by_start (stopping _ charged) led = let some = some_charge charge s' there charged in second refl (omega arith)
      by_start {trace'} {o'} {t' = t'} (going {used} _ run') led = later charge (rest trace' o' used t' old' new' seen run' led)

    call_alike : (s t : Store) (contexts : List Context) (function : ℕ) (args : List Value) (below : List Context) (type : FuncType) (f : Func)
        (trace : List HostCall) (o : RunEnd) (u : ℕ) (old new : H)
        → next m s contexts ≡ Calls function args below → IsDefined m function type f → frames below < depth
        → Comparable s (entered type f args below) trace o u t old new → Comparable s contexts trace o (1 + u) t old new
    call_alike s t contexts function args below type f trace o u old new e defined few rest trace' o' u' t' old' new' seen run lawful = by_start (rw e at (begins run)) lawful where
      by_start : {trace' : List HostCall} {o' : RunEnd} {u' : ℕ} {t' : Store} → Begins s (Calls function args below) trace' o' u' t' → Lawful moves trace' old' new'
          → Compared trace trace' o o' (1 + u) u' t t' new new'
      by_start (stopping _ _) led = second refl (omega arith)
      by_start (refusing _ _ _ _ _ _ deep) led = absurd (omega arith)
      by_start {trace'} {o'} {t' = t'} (calling {used} _ _ _ type' f' defined' _ run') led =
          let one = one_function m function type' type f' f defined' defined in
          let there : entered type' f' args below ≡ entered type f args below = λ i. entered (one.0 i) (one.1 i) args below in
          later 1 (rest trace' o' used t' old' new' seen (rw there at run') led)
      by_start (asking _ _ _ _ _ _ imported _ _) led = absurd (not_both m function type f defined imported)

    ask_alike : (s t : Store) (contexts : List Context) (call : HostCall) (below : List Context) (trace : List HostCall) (o : RunEnd) (u : ℕ) (old mid new : H)
        → next m s contexts ≡ Calls call.function call.args below → IsImported m call.function → call.before ≡ s.memory → moves old call mid
        → Comparable (with_memory call.after s) (receiving (as_operands call.answer) below) trace o u t mid new
        → Comparable s contexts (call ∷ trace) o (1 + u) t old new
    ask_alike s t contexts call below trace o u old mid new e imported before moved rest trace' o' u' t' old' new' seen run lawful = by_start (rw e at (begins run)) lawful where
      by_start : {trace' : List HostCall} {o' : RunEnd} {u' : ℕ} {t' : Store} → Begins s (Calls call.function call.args below) trace' o' u' t' → Lawful moves trace' old' new'
          → Compared (call ∷ trace) trace' o o' (1 + u) u' t t' new new'
      by_start (stopping _ _) led = second refl (omega arith)
      by_start (refusing _ _ _ type f defined _) led = absurd (not_both m call.function type f defined imported)
      by_start (calling _ _ _ type f defined _ _) led = absurd (not_both m call.function type f defined imported)
      by_start {o'} {t' = t'} (asking {trace = trace'} {used} _ _ _ call' en ea _ before' run') (mid', moved', led) =
          let one = determined old' old mid' mid call' call (sym seen) (record { function = en; args = ea; before = before' ∙ sym before }) moved' moved in
          let run'' = rw one.0 at run' in
          asked_too call call' (sym one.0) (rest trace' o' used t' mid' new' (sym one.1) run'' led)

    alike : {s : Store} {contexts : List Context} {trace : List HostCall} {o : RunEnd} {u : ℕ} {t : Store} → Run m depth s contexts trace o u t
        → (old new : H) → Lawful moves trace old new → Comparable s contexts trace o u t old new
    alike {s} {contexts} (ends results e) old new led = end_alike s contexts results old new e led
    alike {s} {contexts} (traps trap e) old new led = trap_alike s contexts trap old new e led
    alike {s} {contexts} (spent charged) old new led = stop_alike s contexts old new charged led
    alike {s} {contexts} (too_deep function args below type f e defined deep) old new led = refuse_alike s contexts function args below type f old new e defined deep led
    alike {s} {contexts} {trace} {o} {t = t} (goes {s'} {contexts'} {used} charge e run) old new led =
        go_alike s s' t contexts contexts' trace o charge used old new e (alike run old new led)
    alike {s} {contexts} {trace} {o} {t = t} (calls {used} function args below type f e defined few run) old new led =
        call_alike s t contexts function args below type f trace o used old new e defined few (alike run old new led)
    alike {s} {contexts} {o} {t = t} (asks {trace} {used} call below e imported before run) old new (mid, moved, led) =
        ask_alike s t contexts call below trace o used old mid new e imported before moved (alike run mid new led)

    -- two runs within one fuel are the same
    within : {fuel : ℕ} {trace trace' : List HostCall} {o o' : RunEnd} {u u' : ℕ} {t t' : Store} {new new' : H}
        → Compared trace trace' o o' u u' t t' new new' → u ≤ fuel → u' ≤ fuel → (o ≡ OutOfFuel → u ≡ fuel) → (o' ≡ OutOfFuel → u' ≡ fuel)
        → (trace ≡ trace') × (o ≡ o') × (u ≡ u') × (t ≡ t') × (see new ≡ see new')
    within (same a b c d e) l l' all all' = (a, b, c, d, e)
    within (first e less) l l' all all' = let k = all e in absurd (omega arith)
    within (second e less) l l' all all' = let k = all' e in absurd (omega arith)

    pub one_run : (fuel : ℕ) (s : Store) (contexts : List Context) (trace trace' : List HostCall) (o o' : RunEnd) (u u' : ℕ) (t t' : Store) (old old' new new' : H) → see old ≡ see old'
        → RunsWithin m depth fuel s contexts trace o u t → Lawful moves trace old new
        → RunsWithin m depth fuel s contexts trace' o' u' t' → Lawful moves trace' old' new'
        → (trace ≡ trace') × (o ≡ o') × (u ≡ u') × (t ≡ t') × (see new ≡ see new')
    one_run fuel s contexts trace trace' o o' u u' t t' old old' new new' seen r led r' led' =
        within (alike r.run old new led trace' o' u' t' old' new' seen r'.run led') r.within r'.within r.all r'.all

-- a host that answers as a list says is led by its answers
abbrev pub says : List HostCall → HostCall → List HostCall → Type 0
says old call new = old ≡ call ∷ new

pub says_one : IsDetermined (λ (h : List HostCall). h) says
says_one old old' new new' call call' seen asked e e' = let k : call ∷ new ≡ call' ∷ new' = sym e ∙ seen ∙ e' in (cc, cc)

pub says_all : (trace : List HostCall) → Lawful says trace trace []
says_all [] = refl
says_all (call ∷ trace) = (trace, refl, says_all trace)

pub one_ending : (m : Contents) (depth fuel : ℕ) (s : Store) (contexts : List Context) (trace : List HostCall) (o o' : RunEnd) (u u' : ℕ) (t t' : Store)
    → RunsWithin m depth fuel s contexts trace o u t → RunsWithin m depth fuel s contexts trace o' u' t' → (o ≡ o') × (u ≡ u') × (t ≡ t')
one_ending m depth fuel s contexts trace o o' u u' t t' r r' =
    let one = one_run m depth (λ (h : List HostCall). h) says says_one fuel s contexts trace trace o o' u u' t t' trace trace [] [] refl r (says_all trace) r' (says_all trace) in
    (one.1, one.2, one.3)
