-- `of` keeps the pointer, and what it owns.
use Rattle.wasmloop_c.proofs.Names.{alloc_all, and_then, free_all, Goes-dropped, handle_tells, look_at, pass_all, proved_at, RattleType, stay_dropped, suffices}
use Rattle.wasmloop_c.proofs.Names.{Al, fact_i, fsplit, get_in, ghosts, has_ty, layout, no_more, nothing, of_list, ptr_val, returns, types_at, vstruct, walk_of}
use Rattle.wasmloop_c.proofs.Names.{alive, enter, feq_i, feq_l, fjoin, fpack, fpick, leaves, of_opd, plain, RawPtr, shape, split, SProp, tables, ty_ptr, within}
use Rattle.wasmloop_c.proofs.Names.{dnil, fact, impl, keep, List, move, owns, refl, sets, Stays, stop, subst, tnil, true, use0, Valss, whole, WpFn, ◌&&◌, ◌++◌}
use Rattle.wasmloop_c.proofs.Names.{agg, by, emp, ent, fld, get, id⊢, Ptr, qed, raw, sub, sym, T, Val, WT, yes, !, [], ‵, ◌$◌, ◌∙◌, ◌∵◌, ◌∷◌, ◌≡◌, ◌⊛◌}
use Rattle.wasmloop_c.proofs.Words.{Ptr-Good, both_tt, one_tt, alone, beside}
use Rattle.std.specs.contracts.alloc.Global as heap
use Rattle.std.proofs.alloc.Global.TheLaws as heap_laws
use Rattle.wasmloop_c.specs.contracts.raw.Raw as held
use Rattle.wasmloop_c.specs.contracts.thing.Thing as thing
use Rattle.slot.specs.contracts.loose.Loose as loose
use Rattle.wasmloop_c.specs.contracts.raw.Raw.of.{ended, clauses}
use Rattle.wasmloop_c.specs.contracts.raw.Raw.of.Key.{name as #self}
use Rattle.wasmloop_c.proofs.raw.Raw.of.Statement.{statement}
use Rattle.wasmloop_c.proofs.raw.Raw.of.Code as code

pub of_spec : {M : Type 1} → statement M
of_spec 𝓤 𝓛 𝓜 𝓡 wired =
    let H = 𝓛.H in let 𝓣 = tables 𝓤 H 𝓜 𝓡 𝓡.env in let Z : RattleType = heap.the_row in let LZ = heap_laws.the_row_laws in let X : RattleType = thing.the_row in
    let L : RattleType = loose.the_row X Z ghosts in let R : RattleType = held.the_row in let En = ended in let c = clauses 𝓛 𝓜.mem 𝓡.returns in let fn = code.function in
    let al : Al = record { row = Z; laws = LZ; g = ghosts; d = impl [] tnil dnil; drops = impl [] tnil dnil } in
    let hs : Stays En.signature.params En.kept = (stay_dropped (plain (λ _. L)) yes, tt) in
    proved_at 𝓛 En hs c 𝓜 𝓡 (Goes-dropped 𝓛 0 (plain (λ _. L)) yes (λ κs x f. refl), tt) #self fn (code.unfolded 𝓤 H 𝓜 𝓡 wired) (λ z are.
    let v = z.0.3.0 in let p : Ptr = v.ptr in let Post : Val → SProp 𝓤 = (walk_of 𝓛 En hs c).post z in let Run : List Val → SProp 𝓤 = λ ws. WpFn 𝓤 H 𝓣.C 𝓣.Λ fn ws Post in
    qed 𝓛 ((raw (alive 𝓛 En.signature z.0.0 z.0.1) ⊛ ‵ (owns (types_at En.signature.params z.0.0) z.0.3 z.0.4)) ∷ raw ((c z.0.0 z.0.3).requires z.1) ∷ []) ∵ split ! $ move ! (1 ∷ []) $ fsplit ! $
    -- [the loose; true; what lives; true]
    fsplit ! $ fpick ! (λ vss. fsplit ! $ feq_l ! (λ ev. fsplit ! $ feq_l ! (λ ep. fsplit ! $ handle_tells al ! v.alloc vss.1.0 (λ h ea fits.
    -- [the handle; true; the box or nothing; true; what lives; true]
    let w : Val = beside p h in let o : Val = alone p in let made : R.Denot = record { at = p; value = v.value } in
    let e : z.0.4.0 ≡ w ∷ [] = ev ∙ (λ i. vstruct (of_list (ep i ++ (ea i ++ []))) ∷ []) in
    let typed : T (has_ty ty_ptr (ptr_val p) && (has_ty (layout Z) h && true)) × WT w =
    (both_tt (has_ty ty_ptr (ptr_val p)) (has_ty (layout Z) h) (Ptr-Good p).0 fits.0, ((Ptr-Good p).1, (fits.1, tt))) in
    suffices ! (Run (w ∷ [])) (subst (λ (us : List Val). ent 𝓤 (Run (w ∷ [])) (Run us)) (sym (λ i. e i ++ [])) (id⊢ 𝓤 (Run (w ∷ [])))) $
    enter ! 𝓣.C 𝓣.Λ fn (w ∷ []) Post $ alloc_all ! (λ l. pass_all ! refl (typed, tt) $
    sets ! (of_opd ! (get_in ! (fld ! refl (stop !)) (sub ! 0 refl (whole !)))) refl (Ptr-Good p) $ sets ! (of_opd ! (get ! refl)) refl (Ptr-Good p) $
    sets ! (agg ! (and_then ! (get ! refl) (no_more !))) refl (one_tt (has_ty ty_ptr (ptr_val p)) (Ptr-Good p).0, ((Ptr-Good p).1, tt)) $
    nothing ! $ feq_i ! (List Val) (ptr_val p ∷ []) (ptr_val p ∷ []) refl $ fjoin ! $ feq_i ! (List Val) (o ∷ []) (o ∷ []) refl $ fjoin ! $
    fpack ! (Valss (RawPtr ∷ [])) (within (shape held.the_type) (p, tt) (o ∷ [])) (ptr_val p ∷ [], tt) $ move ! (0 ∷ 3 ∷ []) $ fjoin ! $
    use0 𝓛 (raw (fact 𝓤 (v.value ≡ v.value))) (fact_i 𝓤 (v.value ≡ v.value) (emp 𝓤) refl) $ nothing ! $ nothing ! $ fjoin ! $
    returns ! (look_at ! 0 refl) $ free_all ! refl $ keep ! (6 ∷ 0 ∷ 2 ∷ 1 ∷ []) $ by ! (leaves 𝓛 En hs c z o made (tt, tt) (tt, tt))))))))
