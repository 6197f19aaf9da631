use Rattle.std.proofs.Common.{◌≡◌, true, false, refl}
use Rattle.imports.proofs.site.refused_at.Goals as goal

pub returns-in-Some : goal.returns-in-Some
returns-in-Some c = rw c.contents-contents.ensures.same at c.in-Some.ensures

pub returns-in-Some-first_uncallable : goal.returns-in-Some-first_uncallable
returns-in-Some-first_uncallable c =
    let same = c.contents-contents.ensures.same in (
      rw same at c.in_default.ensures,
      rw same at c.in-Some-first_uncallable.ensures,
    )

pub returns-then-not-elements_fit : goal.returns-then-not-elements_fit
returns-then-not-elements_fit c =
    let same = c.contents-contents.ensures.same in (
      rw same at c.in_default.ensures,
      rw same at c.in_default-first_uncallable.ensures,
      λ fit. let passed : false ≡ true = c.if-not-elements_fit.ensures.1 fit in cc,
    )

pub returns-then-not-data_fits : goal.returns-then-not-data_fits
returns-then-not-data_fits c =
    let same = c.contents-contents.ensures.same in (
      rw same at c.in_default.ensures,
      rw same at c.in_default-first_uncallable.ensures,
      c.if-not-elements_fit.ensures.0 refl,
      λ fit. let passed : false ≡ true = c.if-not-data_fits.ensures.1 fit in cc,
    )

pub returns : goal.returns
returns c =
    let same = c.contents-contents.ensures.same in
    record {
      imports = rw same at c.in_default.ensures;
      exports = rw same at c.in_default-first_uncallable.ensures;
      segments = record { elements = c.if-not-elements_fit.ensures.0 refl; data_segments = c.if-not-data_fits.ensures.0 refl };
    }
