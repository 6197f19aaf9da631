-- The first part of a module that doesn't fit the host.
use Rattle.std.specs.Prelude.{◌≡◌, ℕ, All, Some, slice_get, take}
use Rattle.syntax.specs.declared.contents.Contents.{Contents}
use Rattle.syntax.specs.declared.contents.Import.{Import}
use Rattle.syntax.specs.declared.contents.ModuleExport.{ModuleExport}
use Rattle.valid.specs.Segments.{ElementFits, DataFits}
use Rattle.imports.specs.Linking.{IsKnown, IsCallable}
use Rattle.imports.specs.declared.site.UnlinkedPart.{UnlinkedPart}
use Rattle.imports.specs.declared.site.UnlinkedPart.TheVariants as site

-- the import of this number is no function of the host with its type, and all before it are
abbrev pub FirstUnknown : Contents → ℕ → Type 0
FirstUnknown m at = (i : Import) × (slice_get m.imports at ≡ Some i) × All (IsKnown m) (take at m.imports) × (IsKnown m i → ⊥)

-- the host can't call the export of this number under its name, and can call all before it
abbrev pub FirstUncallable : Contents → ℕ → Type 0
FirstUncallable m at = (e : ModuleExport) × (slice_get m.exports at ≡ Some e) × All (IsCallable m) (take at m.exports) × (IsCallable m e → ⊥)

-- this is the first part that doesn't fit: imports come first, then exports, then the segments
abbrev pub IsMisfit : Contents → UnlinkedPart → Type 0
IsMisfit m (site.Import at) = FirstUnknown m at
IsMisfit m (site.Export at) = All (IsKnown m) m.imports × FirstUncallable m at
IsMisfit m site.Elements = All (IsKnown m) m.imports × All (IsCallable m) m.exports × (All (ElementFits m) m.elements → ⊥)
IsMisfit m site.Data =
    All (IsKnown m) m.imports × All (IsCallable m) m.exports × All (ElementFits m) m.elements × (All (DataFits m) m.data → ⊥)
