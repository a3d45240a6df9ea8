-- How representations are read, and the parts of unions and enums.
use Rattle.std.specs.Prelude.{ℕ, codes, Option, Some, None, Result, Ok, Err, if◌then◌else◌}
use Rattle.ild_parse_grammar.specs.declared.ast.MapForm.{MapForm}
use Rattle.ild_parse_grammar.specs.declared.ast.MapForm.TheVariants as M
use Rattle.ild_parse_grammar.specs.declared.ast.StructForm.{StructForm}
use Rattle.ild_parse_grammar.specs.declared.ast.StructForm.TheVariants as S
use Rattle.ild_parse_grammar.specs.declared.ast.UnionForm.{UnionForm}
use Rattle.ild_parse_grammar.specs.declared.ast.UnionForm.TheVariants as U
use Rattle.ild_parse_grammar.specs.declared.ast.EnumForm.{EnumForm}
use Rattle.ild_parse_grammar.specs.declared.ast.EnumForm.TheVariants as E
use Rattle.ild_parse_grammar.specs.declared.ast.UnitForm.{UnitForm}
use Rattle.ild_parse_grammar.specs.declared.ast.UnitForm.TheVariants as N
use Rattle.ild_parse_grammar.specs.declared.ast.Pairs.{Pairs}
use Rattle.ild_parse_grammar.specs.declared.ast.Envelope.{Envelope}
use Rattle.ild_parse_grammar.proofs.Stream.{Stream, place, next_is, rest_of}
use Rattle.ild_parse_grammar.proofs.Read.{◌>>=◌, literal_at, type_name_at, one_setting_at, two_settings_at}

-- "{" "innerDelim" Text "entryDelim" Text "}"
unfoldable pub pairs_at : Stream → Result (Pairs × Stream) ℕ
pairs_at s = do
  x ← two_settings_at (codes "innerDelim") (codes "entryDelim") s
  Ok (record { inner = x.0.0; entry = x.0.1 }, x.1)

unfoldable pub map_form_at : Stream → Result (MapForm × Stream) ℕ
map_form_at s =
    if next_is (codes "map") s then Ok (M.Map, rest_of s)
    else if next_is (codes "listpairs") s then Ok (M.ListPairs, rest_of s)
    else if next_is (codes "stringpairs") s then (pairs_at (rest_of s) >>= λ p. Ok (M.StringPairs p.0, p.1))
    else if next_is (codes "advanced") s then (type_name_at (rest_of s) >>= λ n. Ok (M.Advanced n.0, n.1))
    else Err (place s)

unfoldable pub struct_form_at : Stream → Result (StructForm × Stream) ℕ
struct_form_at s =
    if next_is (codes "map") s then Ok (S.Map, rest_of s)
    else if next_is (codes "tuple") s then Ok (S.Tuple, rest_of s)
    else if next_is (codes "listpairs") s then Ok (S.ListPairs, rest_of s)
    else if next_is (codes "stringpairs") s then (pairs_at (rest_of s) >>= λ p. Ok (S.StringPairs p.0, p.1))
    else if next_is (codes "stringjoin") s then (one_setting_at (codes "join") (rest_of s) >>= λ t. Ok (S.StringJoin t.0, t.1))
    else Err (place s)

-- "{" "discriminantKey" Text "contentKey" Text "}"
unfoldable pub envelope_at : Stream → Result (Envelope × Stream) ℕ
envelope_at s = do
  x ← two_settings_at (codes "discriminantKey") (codes "contentKey") s
  Ok (record { discriminant = x.0.0; content = x.0.1 }, x.1)

unfoldable pub union_form_at : Stream → Result (UnionForm × Stream) ℕ
union_form_at s =
    if next_is (codes "keyed") s then Ok (U.Keyed, rest_of s)
    else if next_is (codes "kinded") s then Ok (U.Kinded, rest_of s)
    else if next_is (codes "stringprefix") s then Ok (U.StringPrefix, rest_of s)
    else if next_is (codes "bytesprefix") s then Ok (U.BytesPrefix, rest_of s)
    else if next_is (codes "envelope") s then (envelope_at (rest_of s) >>= λ e. Ok (U.Envelope e.0, e.1))
    else if next_is (codes "inline") s then (one_setting_at (codes "discriminantKey") (rest_of s) >>= λ t. Ok (U.Inline t.0, t.1))
    else Err (place s)

unfoldable pub enum_form_at : Stream → Result (EnumForm × Stream) ℕ
enum_form_at s =
    if next_is (codes "string") s then Ok (E.String, rest_of s)
    else if next_is (codes "int") s then Ok (E.Int, rest_of s)
    else Err (place s)

unfoldable pub unit_form_at : Stream → Result (UnitForm × Stream) ℕ
unit_form_at s =
    if next_is (codes "null") s then Ok (N.Null, rest_of s)
    else if next_is (codes "true") s then Ok (N.True, rest_of s)
    else if next_is (codes "false") s then Ok (N.False, rest_of s)
    else if next_is (codes "emptymap") s then Ok (N.EmptyMap, rest_of s)
    else Err (place s)

-- [ "representation" form ]
unfoldable pub optional_form_at : {A : Type 0} → (Stream → Result (A × Stream) ℕ) → Stream → Result (Option A × Stream) ℕ
optional_form_at form s = if next_is (codes "representation") s then (form (rest_of s) >>= λ f. Ok (Some f.0, f.1)) else Ok (None, s)

-- "representation" form
unfoldable pub needed_form_at : {A : Type 0} → (Stream → Result (A × Stream) ℕ) → Stream → Result (A × Stream) ℕ
needed_form_at form s = do
  t ← literal_at (codes "representation") s
  form t
