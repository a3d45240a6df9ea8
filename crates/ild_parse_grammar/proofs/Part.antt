-- How the parts of structs, unions and enums are read.
use Rattle.std.specs.Prelude.{ℕ, List, [], ◌∷◌, codes, Option, Some, None, Result, Ok, Err, if◌then◌else◌}
use Rattle.ild_parse_grammar.specs.declared.ast.Field.{Field}
use Rattle.ild_parse_grammar.specs.declared.ast.Opt.{Opt}
use Rattle.ild_parse_grammar.specs.declared.ast.Opt.TheVariants as O
use Rattle.ild_parse_grammar.specs.declared.ast.Implicit.{Implicit}
use Rattle.ild_parse_grammar.specs.declared.ast.Implicit.TheVariants as I
use Rattle.ild_parse_grammar.specs.declared.ast.Member.{Member}
use Rattle.ild_parse_grammar.specs.declared.ast.Target.{Target}
use Rattle.ild_parse_grammar.specs.declared.ast.Target.TheVariants as T
use Rattle.ild_parse_grammar.specs.declared.ast.Mark.{Mark}
use Rattle.ild_parse_grammar.specs.declared.ast.Mark.TheVariants as M
use Rattle.ild_parse_grammar.specs.declared.ast.KindWord.{KindWord}
use Rattle.ild_parse_grammar.specs.declared.ast.KindWord.TheVariants as K
use Rattle.ild_parse_grammar.specs.declared.ast.EnumMember.{EnumMember}
use Rattle.ild_parse_grammar.specs.declared.ast.Text.{Text}
use Rattle.ild_parse_grammar.proofs.Stream.{Stream, place, next_is, rest_of}
use Rattle.ild_parse_grammar.specs.Sign.{is_text, is_number}
use Rattle.ild_parse_grammar.proofs.Read.{◌>>=◌, literal_at, type_name_at, name_at, text_at, number_at}
use Rattle.ild_parse_grammar.proofs.Refer.{ref_at, behind_word}
use Rattle.ild_parse_grammar.specs.Derive.{deepest}

-- ---- fields

unfoldable pub implicit_at : Stream → Result (Implicit × Stream) ℕ
implicit_at s =
    if is_text s.signs then (text_at s >>= λ t. Ok (I.Text t.0, t.1))
    else if is_number s.signs then (number_at s >>= λ n. Ok (I.Number n.0, n.1))
    else if next_is (codes "true") s then Ok (I.True, rest_of s)
    else if next_is (codes "false") s then Ok (I.False, rest_of s)
    else Err (place s)

unfoldable pub rename_opt_at : Stream → Result (Opt × Stream) ℕ
rename_opt_at s = do
  t ← literal_at (codes "rename") s
  x ← text_at t
  Ok (O.Rename x.0, x.1)

unfoldable pub implicit_opt_at : Stream → Result (Opt × Stream) ℕ
implicit_opt_at s = do
  t ← literal_at (codes "implicit") s
  x ← implicit_at t
  Ok (O.Implicit x.0, x.1)

-- the first opt, and one that isn't there yet
unfoldable pub opt_at : Stream → Result (Opt × Stream) ℕ
opt_at s = if next_is (codes "rename") s then rename_opt_at s else implicit_opt_at s

unfoldable pub other_opt_at : Opt → Stream → Result (Opt × Stream) ℕ
other_opt_at (O.Rename t) s = implicit_opt_at s
other_opt_at (O.Implicit v) s = rename_opt_at s

-- behind the first opt, up to the closing mark
unfoldable pub opts_behind : Opt → Stream → Result (List Opt × Stream) ℕ
opts_behind first s =
    if next_is (codes ")") s then Ok (first ∷ [], rest_of s)
    else (other_opt_at first s >>= λ second. literal_at (codes ")") second.1 >>= λ t. Ok (first ∷ second.0 ∷ [], t))

-- [ "(" opt { opt } ")" ]
unfoldable pub opts_at : Stream → Result (List Opt × Stream) ℕ
opts_at s = if next_is (codes "(") s then (opt_at (rest_of s) >>= λ first. opts_behind first.0 first.1) else Ok ([], s)

unfoldable pub field_at : Stream → Result (Field × Stream) ℕ
field_at s = do
  n ← name_at s
  r ← ref_at deepest (behind_word (codes "optional") n.1)
  o ← opts_at r.1
  Ok (record { name = n.0; optional = next_is (codes "optional") n.1; value = r.0; opts = o.0 }, o.1)

-- ---- members of unions

-- Type | "&" Type
unfoldable pub target_at : Stream → Result (Target × Stream) ℕ
target_at s =
    if next_is (codes "&") s then (type_name_at (rest_of s) >>= λ n. Ok (T.Link n.0, n.1))
    else (type_name_at s >>= λ n. Ok (T.Type n.0, n.1))

-- the kind that the next token names
unfoldable pub kind_of : Stream → Option KindWord
kind_of s =
    if next_is (codes "null") s then Some K.Null
    else if next_is (codes "bool") s then Some K.Bool
    else if next_is (codes "int") s then Some K.Int
    else if next_is (codes "float") s then Some (K.Float (place s))
    else if next_is (codes "string") s then Some K.String
    else if next_is (codes "bytes") s then Some K.Bytes
    else if next_is (codes "list") s then Some K.List
    else if next_is (codes "map") s then Some K.Map
    else if next_is (codes "link") s then Some K.Link
    else None

abbrev pub kind_mark : Option KindWord → Stream → Option Mark × Stream
kind_mark None s = (None, s)
kind_mark (Some k) s = (Some (M.Kind k), rest_of s)

-- [ Text | kind ]
unfoldable pub mark_at : Stream → Result (Option Mark × Stream) ℕ
mark_at s = if is_text s.signs then (text_at s >>= λ t. Ok (Some (M.Text t.0), t.1)) else Ok (kind_mark (kind_of s) s)

unfoldable pub member_at : Stream → Result (Member × Stream) ℕ
member_at s = do
  t ← literal_at (codes "|") s
  x ← target_at t
  m ← mark_at x.1
  Ok (record { at = place t; target = x.0; mark = m.0 }, m.1)

-- ---- members of enums

-- [ "(" Text ")" ]
unfoldable pub quoted_at : Stream → Result (Option Text × Stream) ℕ
quoted_at s =
    if next_is (codes "(") s
    then (text_at (rest_of s) >>= λ t. literal_at (codes ")") t.1 >>= λ u. Ok (Some t.0, u))
    else Ok (None, s)

unfoldable pub enum_member_at : Stream → Result (EnumMember × Stream) ℕ
enum_member_at s = do
  t ← literal_at (codes "|") s
  n ← name_at t
  q ← quoted_at n.1
  Ok (record { name = n.0; text = q.0 }, q.1)
