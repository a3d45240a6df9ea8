-- The spelling of an implicit value is short.
use Rattle.std.proofs.Common.{◌≡◌, ◌≤◌, ℕ, nat_lt, Bool, true, false, List, length, length-append, Option, Some, None, arith}
use Rattle.std.specs.Prelude.{ℤ, pos, negsuc, not}
use Rattle.std.proofs.lemmas.Bool.Decides.{nat_tests}
use Rattle.ild_data.proofs.HeadSizes.{head_at_most_5, head_at_most_9}
use Rattle.ild_data.specs.Limits.{longest_block}
use Rattle.ild_data.specs.Spell.{head, spell, spell_bool, spell_int, spell_text}
use Rattle.ild_schema.specs.Rules.{is_of, longest_text}
use Rattle.ild_schema.specs.declared.def.Scalar.{Scalar}
use Rattle.ild_schema.specs.declared.def.Scalar.TheVariants as C
use Rattle.ild_schema.specs.declared.def.TypeDef.{TypeDef}
use Rattle.ild_schema.specs.declared.def.TypeDef.TheVariants as D
use Rattle.ild_typed.proofs.Structs.{scalar_data}

text_of_type : (s : List ℕ) (d : TypeDef) → is_of (C.Text s) (Some d) ≡ true → not (nat_lt longest_text (length s)) ≡ true
text_of_type s D.Text e = e
text_of_type s d e = absurd cc

text_limit : (s : List ℕ) (o : Option TypeDef) → is_of (C.Text s) o ≡ true → length s ≤ longest_text
text_limit s None e = absurd cc
text_limit s (Some d) e = let small = text_of_type s d e in grind (arith, nat_tests, small)

bool_short : (b : Bool) → length (spell_bool b) ≤ longest_block
bool_short true = omega arith
bool_short false = omega arith

int_short : (n : ℤ) → length (spell_int n) ≤ longest_block
int_short (pos n) = let few = head_at_most_9 0 n in omega (arith, few)
int_short (negsuc n) = let few = head_at_most_9 1 n in omega (arith, few)

text_short : (s : List ℕ) → length s ≤ longest_text → length (spell_text s) ≤ longest_block
text_short s le = let few = head_at_most_5 3 (length s) (omega (arith, le)) in omega (arith, few, le, length-append (head 3 (length s)) s)

pub scalar_short : (c : Scalar) (o : Option TypeDef) → is_of c o ≡ true → length (spell (scalar_data c)) ≤ longest_block
scalar_short (C.Bool b) o e = bool_short b
scalar_short (C.Int n) o e = int_short n
scalar_short (C.Text s) o e = text_short s (text_limit s o e)
