-- The names of the operations (WebAssembly Core 1.0, appendix, index of instructions; of the sign extensions 2.0).
use Rattle.std.specs.Prelude.{ℕ, List, [], ◌∷◌, Option, Some, None, slice_get, codes}
use Rattle.std.specs.Option.{option_and_then}

-- In the order of the opcodes, four a line, of those on floats too. `None` is for an opcode that the index has as reserved.
unfoldable pub index_of_instructions : List (Option (List ℕ))
index_of_instructions =
    Some (codes "unreachable") ∷ Some (codes "nop") ∷ Some (codes "block") ∷ Some (codes "loop") ∷
    Some (codes "if") ∷ Some (codes "else") ∷ None ∷ None ∷
    None ∷ None ∷ None ∷ Some (codes "end") ∷
    Some (codes "br") ∷ Some (codes "br_if") ∷ Some (codes "br_table") ∷ Some (codes "return") ∷
    Some (codes "call") ∷ Some (codes "call_indirect") ∷ None ∷ None ∷
    None ∷ None ∷ None ∷ None ∷
    None ∷ None ∷ Some (codes "drop") ∷ Some (codes "select") ∷
    None ∷ None ∷ None ∷ None ∷
    Some (codes "local.get") ∷ Some (codes "local.set") ∷ Some (codes "local.tee") ∷ Some (codes "global.get") ∷
    Some (codes "global.set") ∷ None ∷ None ∷ None ∷
    Some (codes "i32.load") ∷ Some (codes "i64.load") ∷ Some (codes "f32.load") ∷ Some (codes "f64.load") ∷
    Some (codes "i32.load8_s") ∷ Some (codes "i32.load8_u") ∷ Some (codes "i32.load16_s") ∷ Some (codes "i32.load16_u") ∷
    Some (codes "i64.load8_s") ∷ Some (codes "i64.load8_u") ∷ Some (codes "i64.load16_s") ∷ Some (codes "i64.load16_u") ∷
    Some (codes "i64.load32_s") ∷ Some (codes "i64.load32_u") ∷ Some (codes "i32.store") ∷ Some (codes "i64.store") ∷
    Some (codes "f32.store") ∷ Some (codes "f64.store") ∷ Some (codes "i32.store8") ∷ Some (codes "i32.store16") ∷
    Some (codes "i64.store8") ∷ Some (codes "i64.store16") ∷ Some (codes "i64.store32") ∷ Some (codes "memory.size") ∷
    Some (codes "memory.grow") ∷ Some (codes "i32.const") ∷ Some (codes "i64.const") ∷ Some (codes "f32.const") ∷
    Some (codes "f64.const") ∷ Some (codes "i32.eqz") ∷ Some (codes "i32.eq") ∷ Some (codes "i32.ne") ∷
    Some (codes "i32.lt_s") ∷ Some (codes "i32.lt_u") ∷ Some (codes "i32.gt_s") ∷ Some (codes "i32.gt_u") ∷
    Some (codes "i32.le_s") ∷ Some (codes "i32.le_u") ∷ Some (codes "i32.ge_s") ∷ Some (codes "i32.ge_u") ∷
    Some (codes "i64.eqz") ∷ Some (codes "i64.eq") ∷ Some (codes "i64.ne") ∷ Some (codes "i64.lt_s") ∷
    Some (codes "i64.lt_u") ∷ Some (codes "i64.gt_s") ∷ Some (codes "i64.gt_u") ∷ Some (codes "i64.le_s") ∷
    Some (codes "i64.le_u") ∷ Some (codes "i64.ge_s") ∷ Some (codes "i64.ge_u") ∷ Some (codes "f32.eq") ∷
    Some (codes "f32.ne") ∷ Some (codes "f32.lt") ∷ Some (codes "f32.gt") ∷ Some (codes "f32.le") ∷
    Some (codes "f32.ge") ∷ Some (codes "f64.eq") ∷ Some (codes "f64.ne") ∷ Some (codes "f64.lt") ∷
    Some (codes "f64.gt") ∷ Some (codes "f64.le") ∷ Some (codes "f64.ge") ∷ Some (codes "i32.clz") ∷
    Some (codes "i32.ctz") ∷ Some (codes "i32.popcnt") ∷ Some (codes "i32.add") ∷ Some (codes "i32.sub") ∷
    Some (codes "i32.mul") ∷ Some (codes "i32.div_s") ∷ Some (codes "i32.div_u") ∷ Some (codes "i32.rem_s") ∷
    Some (codes "i32.rem_u") ∷ Some (codes "i32.and") ∷ Some (codes "i32.or") ∷ Some (codes "i32.xor") ∷
    Some (codes "i32.shl") ∷ Some (codes "i32.shr_s") ∷ Some (codes "i32.shr_u") ∷ Some (codes "i32.rotl") ∷
    Some (codes "i32.rotr") ∷ Some (codes "i64.clz") ∷ Some (codes "i64.ctz") ∷ Some (codes "i64.popcnt") ∷
    Some (codes "i64.add") ∷ Some (codes "i64.sub") ∷ Some (codes "i64.mul") ∷ Some (codes "i64.div_s") ∷
    Some (codes "i64.div_u") ∷ Some (codes "i64.rem_s") ∷ Some (codes "i64.rem_u") ∷ Some (codes "i64.and") ∷
    Some (codes "i64.or") ∷ Some (codes "i64.xor") ∷ Some (codes "i64.shl") ∷ Some (codes "i64.shr_s") ∷
    Some (codes "i64.shr_u") ∷ Some (codes "i64.rotl") ∷ Some (codes "i64.rotr") ∷ Some (codes "f32.abs") ∷
    Some (codes "f32.neg") ∷ Some (codes "f32.ceil") ∷ Some (codes "f32.floor") ∷ Some (codes "f32.trunc") ∷
    Some (codes "f32.nearest") ∷ Some (codes "f32.sqrt") ∷ Some (codes "f32.add") ∷ Some (codes "f32.sub") ∷
    Some (codes "f32.mul") ∷ Some (codes "f32.div") ∷ Some (codes "f32.min") ∷ Some (codes "f32.max") ∷
    Some (codes "f32.copysign") ∷ Some (codes "f64.abs") ∷ Some (codes "f64.neg") ∷ Some (codes "f64.ceil") ∷
    Some (codes "f64.floor") ∷ Some (codes "f64.trunc") ∷ Some (codes "f64.nearest") ∷ Some (codes "f64.sqrt") ∷
    Some (codes "f64.add") ∷ Some (codes "f64.sub") ∷ Some (codes "f64.mul") ∷ Some (codes "f64.div") ∷
    Some (codes "f64.min") ∷ Some (codes "f64.max") ∷ Some (codes "f64.copysign") ∷ Some (codes "i32.wrap_i64") ∷
    Some (codes "i32.trunc_f32_s") ∷ Some (codes "i32.trunc_f32_u") ∷ Some (codes "i32.trunc_f64_s") ∷ Some (codes "i32.trunc_f64_u") ∷
    Some (codes "i64.extend_i32_s") ∷ Some (codes "i64.extend_i32_u") ∷ Some (codes "i64.trunc_f32_s") ∷ Some (codes "i64.trunc_f32_u") ∷
    Some (codes "i64.trunc_f64_s") ∷ Some (codes "i64.trunc_f64_u") ∷ Some (codes "f32.convert_i32_s") ∷ Some (codes "f32.convert_i32_u") ∷
    Some (codes "f32.convert_i64_s") ∷ Some (codes "f32.convert_i64_u") ∷ Some (codes "f32.demote_f64") ∷ Some (codes "f64.convert_i32_s") ∷
    Some (codes "f64.convert_i32_u") ∷ Some (codes "f64.convert_i64_s") ∷ Some (codes "f64.convert_i64_u") ∷ Some (codes "f64.promote_f32") ∷
    Some (codes "i32.reinterpret_f32") ∷ Some (codes "i64.reinterpret_f64") ∷ Some (codes "f32.reinterpret_i32") ∷ Some (codes "f64.reinterpret_i64") ∷
    Some (codes "i32.extend8_s") ∷ Some (codes "i32.extend16_s") ∷ Some (codes "i64.extend8_s") ∷ Some (codes "i64.extend16_s") ∷
    Some (codes "i64.extend32_s") ∷ []

abbrev pub name_at : List (Option (List ℕ)) → ℕ → Option (List ℕ)
name_at names number = option_and_then (λ name. name) (slice_get names number)

abbrev pub name_of_opcode : ℕ → Option (List ℕ)
name_of_opcode opcode = name_at index_of_instructions opcode
