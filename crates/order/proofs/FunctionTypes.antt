-- The types of a module's functions.
use Rattle.order.proofs.Words.{Contents, function_types, FuncType, HasFunctionType, None, Option, refl, slice_get, Some, type_of_function, ℕ, ◌≡◌}
use Rattle.std.specs.Option.{option_and_then}

-- a function's type, found in either way
pub has_type : (m : Contents) (f : ℕ) (type : FuncType) → type_of_function m f ≡ Some type → HasFunctionType m f type
has_type m f type h = found (slice_get (function_types m) f) refl h where
  found : (o : Option ℕ) → slice_get (function_types m) f ≡ o → option_and_then (slice_get m.types) o ≡ Some type → HasFunctionType m f type
  found None e k = absurd (cc)
  found (Some t) e k = (t, e, k)

pub known_as : (m : Contents) (f : ℕ) (type : FuncType) → HasFunctionType m f type → type_of_function m f ≡ Some type
known_as m f type h = rw h.1 h.2
