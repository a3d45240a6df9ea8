-- What is derived is read: references, fields, members, bodies and declarations.
use Rattle.std.proofs.Common.{◌≡◌, ℕ, zero, suc, ◌+◌, ◌≤◌, true, false, cond, List, [], ◌∷◌, length, Result, Ok, Option, Some, None, refl, sym, ap, subst, arith}
use Rattle.std.specs.Prelude.{codes, count_by}
use Rattle.std.proofs.lemmas.List.Sums.{sum_by-cons}
use Rattle.ild_lex.specs.declared.token.Token.{Token}
use Rattle.ild_parse_grammar.specs.declared.ast.Ast.{Ast}
use Rattle.ild_parse_grammar.specs.declared.ast.Decl.{Decl}
use Rattle.ild_parse_grammar.specs.declared.ast.Decl.TheVariants as DV
use Rattle.ild_parse_grammar.specs.declared.ast.TypeDecl.{TypeDecl}
use Rattle.ild_parse_grammar.specs.declared.ast.Body.{Body}
use Rattle.ild_parse_grammar.specs.declared.ast.Body.TheVariants as BV
use Rattle.ild_parse_grammar.specs.declared.ast.MapBody.{MapBody}
use Rattle.ild_parse_grammar.specs.declared.ast.StructBody.{StructBody}
use Rattle.ild_parse_grammar.specs.declared.ast.UnionBody.{UnionBody}
use Rattle.ild_parse_grammar.specs.declared.ast.EnumBody.{EnumBody}
use Rattle.ild_parse_grammar.specs.declared.ast.Field.{Field}
use Rattle.ild_parse_grammar.specs.declared.ast.Opt.{Opt}
use Rattle.ild_parse_grammar.specs.declared.ast.Opt.TheVariants as OV
use Rattle.ild_parse_grammar.specs.declared.ast.Implicit.{Implicit}
use Rattle.ild_parse_grammar.specs.declared.ast.Implicit.TheVariants as IV
use Rattle.ild_parse_grammar.specs.declared.ast.Member.{Member}
use Rattle.ild_parse_grammar.specs.declared.ast.Target.{Target}
use Rattle.ild_parse_grammar.specs.declared.ast.Target.TheVariants as TV
use Rattle.ild_parse_grammar.specs.declared.ast.Mark.{Mark}
use Rattle.ild_parse_grammar.specs.declared.ast.Mark.TheVariants as MV
use Rattle.ild_parse_grammar.specs.declared.ast.KindWord.TheVariants as KV
use Rattle.ild_parse_grammar.specs.declared.ast.EnumMember.{EnumMember}
use Rattle.ild_parse_grammar.specs.declared.ast.UnitForm.{UnitForm}
use Rattle.ild_parse_grammar.specs.declared.ast.Text.{Text}
use Rattle.ild_parse_grammar.specs.Reference.{Reference, refer, Refers, named, link, list, map}
use Rattle.ild_parse_grammar.specs.Sign.{Sign, is_text}
use Rattle.ild_parse_grammar.proofs.Stream.{Stream, stream, is_end, none_left}
use Rattle.ild_parse_grammar.proofs.Read.{many_at, type_name_at, text_at, number_at}
use Rattle.ild_parse_grammar.proofs.Refer.{named_at, link_at, ref_with, list_with, map_with, inline_at, ref_at}
use Rattle.ild_parse_grammar.specs.Derive.{deepest}
use Rattle.ild_parse_grammar.proofs.Form.{map_form_at, struct_form_at, union_form_at, enum_form_at, unit_form_at}
use Rattle.ild_parse_grammar.proofs.Part.{implicit_at, rename_opt_at, implicit_opt_at, opt_at, other_opt_at, opts_behind, opts_at, field_at, target_at, kind_of, mark_at, member_at, quoted_at, enum_member_at}
use Rattle.ild_parse_grammar.proofs.Grammar.{braced_at, map_at, struct_at, union_at, enum_at, unit_at, list_at, scalar_at, body_at, type_decl_at, decl_at, schema_at}
use Rattle.ild_parse_grammar.specs.Derive.{AreParts, IsWord, IsTypeName, BeginsAt, IsOptional, AreBraced, IsReference, IsInline}
use Rattle.ild_parse_grammar.specs.DeriveForm.{IsMapForm, IsStructForm, IsUnionForm, IsEnumForm, IsUnitForm}
use Rattle.ild_parse_grammar.specs.DerivePart.{IsImplicit, IsOpt, renames, is_implicit, AreOpts, IsField, IsTarget, IsMark, IsMember, IsQuoted, IsEnumMember, IsMap, IsStruct, IsUnion, IsEnum, IsBody, IsDecl, Derives}
use Rattle.ild_parse_grammar.proofs.Stream.{begins}
use Rattle.ild_parse_grammar.specs.Sign.{begins_upper, kind_of_text}
use Rattle.ild_lex.specs.declared.token.TokenKind.TheVariants as K
use Rattle.ild_parse_grammar.specs.declared.ast.TypeName.{TypeName}
use Rattle.ild_parse_grammar.proofs.Complete.{reading, word_sign, by_word, by_type, by_name, by_text, by_number, word-complete, type-complete, name-complete, text-complete, number-complete, place_is, optional_is, type_no_word, parts_count, many-complete, braced-complete}
use Rattle.ild_parse_grammar.proofs.CompleteForms.{map_form-complete, struct_form-complete, union_form-complete, enum_form-complete, unit_form-complete, optional_form-complete, needed_form-complete}
use Rattle.ild_parse_grammar.proofs.Shorter.{field_shorter, member_shorter, enum_member_shorter, decl_shorter}

-- ---- references

-- an inline type begins with no word in lower case
inline_no_word : (w : List ℕ) (room : ℕ) (r : Refers) (xs ys : List Sign) → begins_upper w ≡ false → kind_of_text w ≡ K.Word → IsInline room r xs ys → begins w xs ≡ false
inline_no_word w room (named n) xs ys lower word h = type_no_word w n xs ys lower h
inline_no_word w room (link n) xs ys lower word h = by_word (λ (zs : List Sign). begins w zs ≡ false) (codes "&") xs h.2.0 h.2.1 (λ at. rw word refl)
inline_no_word w room (list r) xs ys lower word h = by_word (λ (zs : List Sign). begins w zs ≡ false) (codes "[") xs h.2.0 h.2.2 (λ at. rw word refl)
inline_no_word w room (map k r) xs ys lower word h = by_word (λ (zs : List Sign). begins w zs ≡ false) (codes "{") xs h.2.0 h.2.4 (λ at. rw word refl)

reference_not_optional : (room : ℕ) (r : Reference) (xs ys : List Sign) → IsReference room r xs ys → begins (codes "optional") xs ≡ false
reference_not_optional room (refer at true type_at r) xs ys h = by_word (λ (zs : List Sign). begins (codes "optional") zs ≡ false) (codes "nullable") xs h.0 h.1 (λ at. refl)
reference_not_optional room (refer at false type_at r) xs ys h = rw h.1 (inline_no_word (codes "optional") room r h.0 ys refl refl h.4)

abbrev IsInlineFound : ℕ → (Stream → Result (Refers × Stream) ℕ) → ℕ → Type 0
IsInlineFound room inline end = (r : Refers) (xs ys : List Sign) → IsInline room r xs ys → inline (reading end xs) ≡ Ok (r, reading end ys)

pub ref-complete : (room : ℕ) (inline : Stream → Result (Refers × Stream) ℕ) (end : ℕ) → IsInlineFound room inline end → (r : Reference) (xs ys : List Sign) → IsReference room r xs ys → ref_with inline (reading end xs) ≡ Ok (r, reading end ys)
unfolding ref_with
ref-complete room inline end each (refer at nullable type_at r) xs ys h =
    let word = optional_is end (codes "nullable") nullable xs h.0 h.1 (inline_no_word (codes "nullable") room r h.0 ys refl refl h.4) in
    rw (word.1, each r h.0 ys h.4, word.0, place_is end at xs h.2, place_is end type_at h.0 h.3) refl

link-complete : (room end : ℕ) (n : TypeName) (xs ys : List Sign) → IsInline room (link n) xs ys → link_at (reading end xs) ≡ Ok (link n, reading end ys)
unfolding link_at
link-complete room end n xs ys h = rw (word-complete end (codes "&") xs h.2.0 h.2.1, type-complete end n h.2.0 ys h.2.2) refl

smaller : (room inner : ℕ) → suc room ≡ inner + 1 → inner ≡ room
smaller room inner e = omega (arith, e)

list_with-complete : (room : ℕ) (inline : Stream → Result (Refers × Stream) ℕ) (end : ℕ) → IsInlineFound room inline end → (r : Reference) (xs ys : List Sign) → IsInline (suc room) (list r) xs ys → list_with inline (reading end xs) ≡ Ok (list r, reading end ys)
unfolding list_with
list_with-complete room inline end each r xs ys h =
    let inside = subst (λ (m : ℕ). IsReference m r h.2.0 h.2.1) (smaller room h.0 h.1) h.2.3 in
    rw (word-complete end (codes "[") xs h.2.0 h.2.2, ref-complete room inline end each r h.2.0 h.2.1 inside, word-complete end (codes "]") h.2.1 ys h.2.4) refl

map_with-complete : (room : ℕ) (inline : Stream → Result (Refers × Stream) ℕ) (end : ℕ) → IsInlineFound room inline end → (k : TypeName) (r : Reference) (xs ys : List Sign) → IsInline (suc room) (map k r) xs ys → map_with inline (reading end xs) ≡ Ok (map k r, reading end ys)
unfolding map_with
map_with-complete room inline end each k r xs ys h =
    let inside = subst (λ (m : ℕ). IsReference m r h.2.2 h.2.3) (smaller room h.0 h.1) h.2.7 in
    rw (word-complete end (codes "{") xs h.2.0 h.2.4, type-complete end k h.2.0 h.2.1 h.2.5, word-complete end (codes ":") h.2.1 h.2.2 h.2.6, ref-complete room inline end each r h.2.2 h.2.3 inside, word-complete end (codes "}") h.2.3 ys h.2.8) refl

named-complete : (end : ℕ) (n : TypeName) (xs ys : List Sign) → IsTypeName n xs ys → named_at (reading end xs) ≡ Ok (named n, reading end ys)
unfolding named_at
named-complete end n xs ys h = rw (type-complete end n xs ys h) refl

no_room : (inner : ℕ) → zero ≡ inner + 1 → ⊥
no_room inner e = omega (arith, e)

pub inline-complete : (room end : ℕ) (r : Refers) (xs ys : List Sign) → IsInline room r xs ys → inline_at room (reading end xs) ≡ Ok (r, reading end ys)
unfolding inline_at
inline-complete zero end (named n) xs ys h = named-complete end n xs ys h
inline-complete zero end (link n) xs ys h = absurd (no_room h.0 h.1)
inline-complete zero end (list r) xs ys h = absurd (no_room h.0 h.1)
inline-complete zero end (map k r) xs ys h = absurd (no_room h.0 h.1)
inline-complete (suc room) end (named n) xs ys h =
    by_type (λ (zs : List Sign). named_at (reading end zs) ≡ Ok (named n, reading end ys) → inline_at (suc room) (reading end zs) ≡ Ok (named n, reading end ys)) n xs ys h (λ upper e. e) (named-complete end n xs ys h)
inline-complete (suc room) end (link n) xs ys h =
    by_word (λ (zs : List Sign). link_at (reading end zs) ≡ Ok (link n, reading end ys) → inline_at (suc room) (reading end zs) ≡ Ok (link n, reading end ys)) (codes "&") xs h.2.0 h.2.1 (λ at e. e) (link-complete (suc room) end n xs ys h)
inline-complete (suc room) end (list r) xs ys h =
    by_word (λ (zs : List Sign). list_with (inline_at room) (reading end zs) ≡ Ok (list r, reading end ys) → inline_at (suc room) (reading end zs) ≡ Ok (list r, reading end ys)) (codes "[") xs h.2.0 h.2.2 (λ at e. e)
    (list_with-complete room (inline_at room) end (inline-complete room end) r xs ys h)
inline-complete (suc room) end (map k r) xs ys h =
    by_word (λ (zs : List Sign). map_with (inline_at room) (reading end zs) ≡ Ok (map k r, reading end ys) → inline_at (suc room) (reading end zs) ≡ Ok (map k r, reading end ys)) (codes "{") xs h.2.0 h.2.4 (λ at e. e)
    (map_with-complete room (inline_at room) end (inline-complete room end) k r xs ys h)

pub reference-complete : (end : ℕ) (r : Reference) (xs ys : List Sign) → IsReference deepest r xs ys → ref_at deepest (reading end xs) ≡ Ok (r, reading end ys)
reference-complete end r xs ys h = ref-complete deepest (inline_at deepest) end (inline-complete deepest end) r xs ys h

-- ---- fields

pub implicit-complete : (end : ℕ) (f : Implicit) (xs ys : List Sign) → IsImplicit f xs ys → implicit_at (reading end xs) ≡ Ok (f, reading end ys)
unfolding implicit_at
implicit-complete end (IV.Text t) xs ys h = by_text (λ (zs : List Sign). text_at (reading end zs) ≡ Ok (t, reading end ys) → implicit_at (reading end zs) ≡ Ok (IV.Text t, reading end ys)) t xs ys h (λ text m e. rw e refl) (text-complete end t xs ys h)
implicit-complete end (IV.Number n) xs ys h = by_number (λ (zs : List Sign). number_at (reading end zs) ≡ Ok (n, reading end ys) → implicit_at (reading end zs) ≡ Ok (IV.Number n, reading end ys)) n xs ys h (λ text m e. rw e refl) (number-complete end n xs ys h)
implicit-complete end IV.True xs ys h = by_word (λ (zs : List Sign). implicit_at (reading end zs) ≡ Ok (IV.True, reading end ys)) (codes "true") xs ys h (λ at. refl)
implicit-complete end IV.False xs ys h = by_word (λ (zs : List Sign). implicit_at (reading end zs) ≡ Ok (IV.False, reading end ys)) (codes "false") xs ys h (λ at. refl)

rename_opt-complete : (end : ℕ) (t : Text) (xs ys : List Sign) → IsOpt (OV.Rename t) xs ys → rename_opt_at (reading end xs) ≡ Ok (OV.Rename t, reading end ys)
unfolding rename_opt_at
rename_opt-complete end t xs ys h = rw (word-complete end (codes "rename") xs h.0 h.1, text-complete end t h.0 ys h.2) refl

implicit_opt-complete : (end : ℕ) (v : Implicit) (xs ys : List Sign) → IsOpt (OV.Implicit v) xs ys → implicit_opt_at (reading end xs) ≡ Ok (OV.Implicit v, reading end ys)
unfolding implicit_opt_at
implicit_opt-complete end v xs ys h = rw (word-complete end (codes "implicit") xs h.0 h.1, implicit-complete end v h.0 ys h.2) refl

pub opt-complete : (end : ℕ) (f : Opt) (xs ys : List Sign) → IsOpt f xs ys → opt_at (reading end xs) ≡ Ok (f, reading end ys)
unfolding opt_at
opt-complete end (OV.Rename t) xs ys h = by_word (λ (zs : List Sign). rename_opt_at (reading end zs) ≡ Ok (OV.Rename t, reading end ys) → opt_at (reading end zs) ≡ Ok (OV.Rename t, reading end ys)) (codes "rename") xs h.0 h.1 (λ at e. e) (rename_opt-complete end t xs ys h)
opt-complete end (OV.Implicit v) xs ys h = by_word (λ (zs : List Sign). implicit_opt_at (reading end zs) ≡ Ok (OV.Implicit v, reading end ys) → opt_at (reading end zs) ≡ Ok (OV.Implicit v, reading end ys)) (codes "implicit") xs h.0 h.1 (λ at e. e) (implicit_opt-complete end v xs ys h)

-- each opt is of one kind
count_both : (os : List Opt) → count_by renames os + count_by is_implicit os ≡ length os
count_both [] = refl
count_both (OV.Rename t ∷ os) =
    let a : count_by renames (OV.Rename t ∷ os) ≡ 1 + count_by renames os = sum_by-cons (λ x. cond (renames x) 1 0) (OV.Rename t) os in
    let b : count_by is_implicit (OV.Rename t ∷ os) ≡ 0 + count_by is_implicit os = sum_by-cons (λ x. cond (is_implicit x) 1 0) (OV.Rename t) os in
    omega (arith, count_both os, a, b)
count_both (OV.Implicit v ∷ os) =
    let a : count_by renames (OV.Implicit v ∷ os) ≡ 0 + count_by renames os = sum_by-cons (λ x. cond (renames x) 1 0) (OV.Implicit v) os in
    let b : count_by is_implicit (OV.Implicit v ∷ os) ≡ 1 + count_by is_implicit os = sum_by-cons (λ x. cond (is_implicit x) 1 0) (OV.Implicit v) os in
    omega (arith, count_both os, a, b)

abbrev AreOnce : List Opt → Type 0
AreOnce os = (count_by renames os ≤ 1) × (count_by is_implicit os ≤ 1)

two_at_most : (p q r : Opt) (os : List Opt) → AreOnce (p ∷ q ∷ r ∷ os) → ⊥
two_at_most p q r os once = omega (arith, count_both (p ∷ q ∷ r ∷ os), once.0, once.1)

other_opt-complete : (end : ℕ) (p q : Opt) (xs ys : List Sign) → AreOnce (p ∷ q ∷ []) → IsOpt q xs ys → other_opt_at p (reading end xs) ≡ Ok (q, reading end ys)
unfolding other_opt_at
other_opt-complete end (OV.Rename t) (OV.Rename u) xs ys once h = absurd (omega (arith, once.0))
other_opt-complete end (OV.Rename t) (OV.Implicit v) xs ys once h = implicit_opt-complete end v xs ys h
other_opt-complete end (OV.Implicit v) (OV.Rename u) xs ys once h = rename_opt-complete end u xs ys h
other_opt-complete end (OV.Implicit v) (OV.Implicit u) xs ys once h = absurd (omega (arith, once.1))

opt_goes : (p : Opt) (xs ys : List Sign) → IsOpt p xs ys → begins (codes ")") xs ≡ false
opt_goes (OV.Rename t) xs ys h = by_word (λ (zs : List Sign). begins (codes ")") zs ≡ false) (codes "rename") xs h.0 h.1 (λ at. refl)
opt_goes (OV.Implicit v) xs ys h = by_word (λ (zs : List Sign). begins (codes ")") zs ≡ false) (codes "implicit") xs h.0 h.1 (λ at. refl)

one_opt-complete : (end : ℕ) (p : Opt) (xs ys : List Sign) → IsWord (codes ")") xs ys → opts_behind p (reading end xs) ≡ Ok (p ∷ [], reading end ys)
unfolding opts_behind
one_opt-complete end p xs ys h = by_word (λ (zs : List Sign). opts_behind p (reading end zs) ≡ Ok (p ∷ [], reading end ys)) (codes ")") xs ys h (λ at. refl)

two_opts-complete : (end : ℕ) (p q : Opt) (xs us ys : List Sign) → AreOnce (p ∷ q ∷ []) → IsOpt q xs us → IsWord (codes ")") us ys → opts_behind p (reading end xs) ≡ Ok (p ∷ q ∷ [], reading end ys)
unfolding opts_behind
two_opts-complete end p q xs us ys once h closing = rw (opt_goes q xs us h, other_opt-complete end p q xs us once h, word-complete end (codes ")") us ys closing) refl

pub opts-complete : (end : ℕ) (os : List Opt) (xs ys : List Sign) → AreOpts os xs ys → begins (codes "(") ys ≡ false → opts_at (reading end xs) ≡ Ok (os, reading end ys)
unfolding opts_at
opts-complete end [] xs ys h off = rw (h, off) refl
opts-complete end (p ∷ []) xs ys h off =
    let closing = subst (λ (zs : List Sign). IsWord (codes ")") zs ys) (sym h.3.2) h.4 in
    by_word (λ (zs : List Sign). opts_at (reading end zs) ≡ Ok (p ∷ [], reading end ys)) (codes "(") xs h.0 h.2
    (λ at. rw (opt-complete end p h.0 h.3.0 h.3.1) (one_opt-complete end p h.3.0 ys closing))
opts-complete end (p ∷ q ∷ []) xs ys h off =
    let closing = subst (λ (zs : List Sign). IsWord (codes ")") zs ys) (sym h.3.2.2) h.4 in
    by_word (λ (zs : List Sign). opts_at (reading end zs) ≡ Ok (p ∷ q ∷ [], reading end ys)) (codes "(") xs h.0 h.2
    (λ at. rw (opt-complete end p h.0 h.3.0 h.3.1) (two_opts-complete end p q h.3.0 h.3.2.0 ys (h.5, h.6) h.3.2.1 closing))
opts-complete end (p ∷ q ∷ r ∷ os) xs ys h off = absurd (two_at_most p q r os (h.5, h.6))

pub field-complete : (end : ℕ) (f : Field) (xs ys : List Sign) → IsField f xs ys → begins (codes "(") ys ≡ false → field_at (reading end xs) ≡ Ok (f, reading end ys)
unfolding field_at
field-complete end f xs ys h off =
    let word = optional_is end (codes "optional") f.optional h.0 h.1 h.4 (reference_not_optional deepest f.value h.1 h.2 h.5) in
    rw (name-complete end f.name xs h.0 h.3, word.1, reference-complete end f.value h.1 h.2 h.5, opts-complete end f.opts h.2 ys h.6 off, word.0) refl

-- ---- members

pub target-complete : (end : ℕ) (f : Target) (xs ys : List Sign) → IsTarget f xs ys → target_at (reading end xs) ≡ Ok (f, reading end ys)
unfolding target_at
target-complete end (TV.Type n) xs ys h = by_type (λ (zs : List Sign). type_name_at (reading end zs) ≡ Ok (n, reading end ys) → target_at (reading end zs) ≡ Ok (TV.Type n, reading end ys)) n xs ys h (λ upper e. rw e refl) (type-complete end n xs ys h)
target-complete end (TV.Link n) xs ys h = by_word (λ (zs : List Sign). target_at (reading end zs) ≡ Ok (TV.Link n, reading end ys)) (codes "&") xs h.0 h.1 (λ at. rw (type-complete end n h.0 ys h.2) refl)

-- neither a text nor a kind begins here
abbrev NoMark : ℕ → List Sign → Type 0
NoMark end xs = (is_text xs ≡ false) × (kind_of (reading end xs) ≡ None)

pub mark-complete : (end : ℕ) (m : Option Mark) (xs ys : List Sign) → IsOptional IsMark m xs ys → NoMark end ys → mark_at (reading end xs) ≡ Ok (m, reading end ys)
unfolding mark_at kind_of
mark-complete end None xs ys h off = rw (h, off.0, off.1) refl
mark-complete end (Some (MV.Text t)) xs ys h off = by_text (λ (zs : List Sign). text_at (reading end zs) ≡ Ok (t, reading end ys) → mark_at (reading end zs) ≡ Ok (Some (MV.Text t), reading end ys)) t xs ys h (λ text m e. rw e refl) (text-complete end t xs ys h)
mark-complete end (Some (MV.Kind KV.Null)) xs ys h off = by_word (λ (zs : List Sign). mark_at (reading end zs) ≡ Ok (Some (MV.Kind KV.Null), reading end ys)) (codes "null") xs ys h (λ at. refl)
mark-complete end (Some (MV.Kind KV.Bool)) xs ys h off = by_word (λ (zs : List Sign). mark_at (reading end zs) ≡ Ok (Some (MV.Kind KV.Bool), reading end ys)) (codes "bool") xs ys h (λ at. refl)
mark-complete end (Some (MV.Kind KV.Int)) xs ys h off = by_word (λ (zs : List Sign). mark_at (reading end zs) ≡ Ok (Some (MV.Kind KV.Int), reading end ys)) (codes "int") xs ys h (λ at. refl)
mark-complete end (Some (MV.Kind KV.String)) xs ys h off = by_word (λ (zs : List Sign). mark_at (reading end zs) ≡ Ok (Some (MV.Kind KV.String), reading end ys)) (codes "string") xs ys h (λ at. refl)
mark-complete end (Some (MV.Kind KV.Bytes)) xs ys h off = by_word (λ (zs : List Sign). mark_at (reading end zs) ≡ Ok (Some (MV.Kind KV.Bytes), reading end ys)) (codes "bytes") xs ys h (λ at. refl)
mark-complete end (Some (MV.Kind KV.List)) xs ys h off = by_word (λ (zs : List Sign). mark_at (reading end zs) ≡ Ok (Some (MV.Kind KV.List), reading end ys)) (codes "list") xs ys h (λ at. refl)
mark-complete end (Some (MV.Kind KV.Map)) xs ys h off = by_word (λ (zs : List Sign). mark_at (reading end zs) ≡ Ok (Some (MV.Kind KV.Map), reading end ys)) (codes "map") xs ys h (λ at. refl)
mark-complete end (Some (MV.Kind KV.Link)) xs ys h off = by_word (λ (zs : List Sign). mark_at (reading end zs) ≡ Ok (Some (MV.Kind KV.Link), reading end ys)) (codes "link") xs ys h (λ at. refl)
mark-complete end (Some (MV.Kind (KV.Float p))) xs ys h off = by_word (λ (zs : List Sign). BeginsAt p zs → mark_at (reading end zs) ≡ Ok (Some (MV.Kind (KV.Float p)), reading end ys)) (codes "float") xs ys h.0 (λ at e. ap (λ (n : ℕ). Ok (Some (MV.Kind (KV.Float n)), reading end ys)) (sym e)) h.1

pub member-complete : (end : ℕ) (m : Member) (xs ys : List Sign) → IsMember m xs ys → NoMark end ys → member_at (reading end xs) ≡ Ok (m, reading end ys)
unfolding member_at
member-complete end m xs ys h off =
    rw (word-complete end (codes "|") xs h.0 h.2, target-complete end m.target h.0 h.1 h.4, mark-complete end m.mark h.1 ys h.5 off, place_is end m.at h.0 h.3) refl

quoted-complete : (end : ℕ) (t : Option Text) (xs ys : List Sign) → IsOptional IsQuoted t xs ys → begins (codes "(") ys ≡ false → quoted_at (reading end xs) ≡ Ok (t, reading end ys)
unfolding quoted_at
quoted-complete end None xs ys h off = rw (h, off) refl
quoted-complete end (Some t) xs ys h off =
    by_word (λ (zs : List Sign). quoted_at (reading end zs) ≡ Ok (Some t, reading end ys)) (codes "(") xs h.0 h.2 (λ at. rw (text-complete end t h.0 h.1 h.3, word-complete end (codes ")") h.1 ys h.4) refl)

pub enum_member-complete : (end : ℕ) (m : EnumMember) (xs ys : List Sign) → IsEnumMember m xs ys → begins (codes "(") ys ≡ false → enum_member_at (reading end xs) ≡ Ok (m, reading end ys)
unfolding enum_member_at
enum_member-complete end m xs ys h off = rw (word-complete end (codes "|") xs h.0 h.2, name-complete end m.name h.0 h.1 h.3, quoted-complete end m.text h.1 ys h.4 off) refl

-- ---- what a part begins with, and what comes behind the last one

abbrev NoParen : List Sign → Type 0
NoParen xs = begins (codes "(") xs ≡ false

fields-complete : (end : ℕ) (all : List Field) (xs ys : List Sign) → AreBraced IsField all xs ys → braced_at field_at (reading end xs) ≡ Ok (all, reading end ys)
fields-complete end = braced-complete field_at IsField NoParen end
    (λ f xs ys h. by_name NoParen f.name xs h.0 h.3 refl)
    (λ f xs ys h. by_name (λ (zs : List Sign). begins (codes "}") zs ≡ false) f.name xs h.0 h.3 refl)
    (field-complete end) field_shorter
    (λ xs ys h. by_word NoParen (codes "}") xs ys h (λ at. refl))

no_mark : (end : ℕ) (w : List ℕ) (xs ys : List Sign) → IsWord w xs ys → ((at : ℕ) → NoMark end (word_sign w at ∷ ys)) → NoMark end xs
no_mark end w xs ys h k = by_word (NoMark end) w xs ys h k

members-complete : (end : ℕ) (all : List Member) (xs ys : List Sign) → AreBraced IsMember all xs ys → braced_at member_at (reading end xs) ≡ Ok (all, reading end ys)
unfolding kind_of
members-complete end = braced-complete member_at IsMember (NoMark end) end
    (λ m xs ys h. no_mark end (codes "|") xs h.0 h.2 (λ at. (refl, refl)))
    (λ m xs ys h. by_word (λ (zs : List Sign). begins (codes "}") zs ≡ false) (codes "|") xs h.0 h.2 (λ at. refl))
    (member-complete end) member_shorter
    (λ xs ys h. no_mark end (codes "}") xs ys h (λ at. (refl, refl)))

enum_members-complete : (end : ℕ) (all : List EnumMember) (xs ys : List Sign) → AreBraced IsEnumMember all xs ys → braced_at enum_member_at (reading end xs) ≡ Ok (all, reading end ys)
enum_members-complete end = braced-complete enum_member_at IsEnumMember NoParen end
    (λ m xs ys h. by_word NoParen (codes "|") xs h.0 h.2 (λ at. refl))
    (λ m xs ys h. by_word (λ (zs : List Sign). begins (codes "}") zs ≡ false) (codes "|") xs h.0 h.2 (λ at. refl))
    (enum_member-complete end) enum_member_shorter
    (λ xs ys h. by_word NoParen (codes "}") xs ys h (λ at. refl))

-- ---- bodies

abbrev NoForm : List Sign → Type 0
NoForm xs = begins (codes "representation") xs ≡ false

map-complete : (end : ℕ) (m : MapBody) (xs ys : List Sign) → IsMap m xs ys → NoForm ys → map_at (reading end xs) ≡ Ok (m, reading end ys)
unfolding map_at
map-complete end m xs ys h off =
    rw (
      word-complete end (codes "{") xs h.0 h.5,
      type-complete end m.key h.0 h.1 h.6,
      word-complete end (codes ":") h.1 h.2 h.7,
      reference-complete end m.value h.2 h.3 h.8,
      word-complete end (codes "}") h.3 h.4 h.9,
      optional_form-complete map_form_at IsMapForm end (map_form-complete end) m.form h.4 ys h.10 off,
    ) refl

struct-complete : (end : ℕ) (b : StructBody) (xs ys : List Sign) → IsStruct b xs ys → NoForm ys → struct_at (reading end xs) ≡ Ok (b, reading end ys)
unfolding struct_at
struct-complete end b xs ys h off =
    rw (word-complete end (codes "struct") xs h.0 h.2, fields-complete end b.fields h.0 h.1 h.3, optional_form-complete struct_form_at IsStructForm end (struct_form-complete end) b.form h.1 ys h.4 off) refl

union-complete : (end : ℕ) (b : UnionBody) (xs ys : List Sign) → IsUnion b xs ys → union_at (reading end xs) ≡ Ok (b, reading end ys)
unfolding union_at
union-complete end b xs ys h =
    rw (word-complete end (codes "union") xs h.0 h.2, members-complete end b.members h.0 h.1 h.3, needed_form-complete union_form_at IsUnionForm end (union_form-complete end) b.form h.1 ys h.4) refl

enum-complete : (end : ℕ) (b : EnumBody) (xs ys : List Sign) → IsEnum b xs ys → NoForm ys → enum_at (reading end xs) ≡ Ok (b, reading end ys)
unfolding enum_at
enum-complete end b xs ys h off =
    rw (word-complete end (codes "enum") xs h.0 h.2, enum_members-complete end b.members h.0 h.1 h.3, optional_form-complete enum_form_at IsEnumForm end (enum_form-complete end) b.form h.1 ys h.4 off) refl

unit-complete : (end : ℕ) (f : UnitForm) (xs ys : List Sign) → IsBody (BV.Unit f) xs ys → unit_at (reading end xs) ≡ Ok (f, reading end ys)
unfolding unit_at
unit-complete end f xs ys h = rw (word-complete end (codes "unit") xs h.0 h.1, needed_form-complete unit_form_at IsUnitForm end (unit_form-complete end) f h.0 ys h.2) refl

list-complete : (end : ℕ) (r : Reference) (xs ys : List Sign) → IsBody (BV.List r) xs ys → list_at (reading end xs) ≡ Ok (BV.List r, reading end ys)
unfolding list_at
list-complete end r xs ys h = rw (word-complete end (codes "[") xs h.0 h.2, reference-complete end r h.0 h.1 h.3, word-complete end (codes "]") h.1 ys h.4) refl

pub body-complete : (end : ℕ) (b : Body) (xs ys : List Sign) → IsBody b xs ys → NoForm ys → body_at (reading end xs) ≡ Ok (b, reading end ys)
unfolding body_at scalar_at
body-complete end (BV.Copy n) xs ys h off = by_word (λ (zs : List Sign). body_at (reading end zs) ≡ Ok (BV.Copy n, reading end ys)) (codes "=") xs h.0 h.1 (λ at. rw (type-complete end n h.0 ys h.2) refl)
body-complete end BV.Bool xs ys h off = by_word (λ (zs : List Sign). body_at (reading end zs) ≡ Ok (BV.Bool, reading end ys)) (codes "bool") xs ys h (λ at. refl)
body-complete end BV.String xs ys h off = by_word (λ (zs : List Sign). body_at (reading end zs) ≡ Ok (BV.String, reading end ys)) (codes "string") xs ys h (λ at. refl)
body-complete end BV.Bytes xs ys h off = by_word (λ (zs : List Sign). body_at (reading end zs) ≡ Ok (BV.Bytes, reading end ys)) (codes "bytes") xs ys h (λ at. refl)
body-complete end BV.Int xs ys h off = by_word (λ (zs : List Sign). body_at (reading end zs) ≡ Ok (BV.Int, reading end ys)) (codes "int") xs ys h (λ at. refl)
body-complete end BV.Any xs ys h off = by_word (λ (zs : List Sign). body_at (reading end zs) ≡ Ok (BV.Any, reading end ys)) (codes "any") xs ys h (λ at. refl)
body-complete end (BV.Float p) xs ys h off = by_word (λ (zs : List Sign). BeginsAt p zs → body_at (reading end zs) ≡ Ok (BV.Float p, reading end ys)) (codes "float") xs ys h.0 (λ at e. ap (λ (n : ℕ). Ok (BV.Float n, reading end ys)) (sym e)) h.1
body-complete end (BV.Link n) xs ys h off = by_word (λ (zs : List Sign). body_at (reading end zs) ≡ Ok (BV.Link n, reading end ys)) (codes "&") xs h.0 h.1 (λ at. rw (type-complete end n h.0 ys h.2) refl)
body-complete end (BV.List r) xs ys h off = by_word (λ (zs : List Sign). list_at (reading end zs) ≡ Ok (BV.List r, reading end ys) → body_at (reading end zs) ≡ Ok (BV.List r, reading end ys)) (codes "[") xs h.0 h.2 (λ at e. e) (list-complete end r xs ys h)
body-complete end (BV.Map m) xs ys h off = by_word (λ (zs : List Sign). map_at (reading end zs) ≡ Ok (m, reading end ys) → body_at (reading end zs) ≡ Ok (BV.Map m, reading end ys)) (codes "{") xs h.0 h.5 (λ at e. rw e refl) (map-complete end m xs ys h off)
body-complete end (BV.Struct b) xs ys h off = by_word (λ (zs : List Sign). struct_at (reading end zs) ≡ Ok (b, reading end ys) → body_at (reading end zs) ≡ Ok (BV.Struct b, reading end ys)) (codes "struct") xs h.0 h.2 (λ at e. rw e refl) (struct-complete end b xs ys h off)
body-complete end (BV.Union b) xs ys h off = by_word (λ (zs : List Sign). union_at (reading end zs) ≡ Ok (b, reading end ys) → body_at (reading end zs) ≡ Ok (BV.Union b, reading end ys)) (codes "union") xs h.0 h.2 (λ at e. rw e refl) (union-complete end b xs ys h)
body-complete end (BV.Enum b) xs ys h off = by_word (λ (zs : List Sign). enum_at (reading end zs) ≡ Ok (b, reading end ys) → body_at (reading end zs) ≡ Ok (BV.Enum b, reading end ys)) (codes "enum") xs h.0 h.2 (λ at e. rw e refl) (enum-complete end b xs ys h off)
body-complete end (BV.Unit f) xs ys h off = by_word (λ (zs : List Sign). unit_at (reading end zs) ≡ Ok (f, reading end ys) → body_at (reading end zs) ≡ Ok (BV.Unit f, reading end ys)) (codes "unit") xs h.0 h.1 (λ at e. rw e refl) (unit-complete end f xs ys h)

-- ---- declarations

type_decl-complete : (end : ℕ) (d : TypeDecl) (xs ys : List Sign) → IsDecl (DV.Type d) xs ys → NoForm ys → type_decl_at (reading end xs) ≡ Ok (d, reading end ys)
unfolding type_decl_at
type_decl-complete end d xs ys h off = rw (word-complete end (codes "type") xs h.0 h.2, type-complete end d.name h.0 h.1 h.3, body-complete end d.body h.1 ys h.4 off) refl

pub decl-complete : (end : ℕ) (d : Decl) (xs ys : List Sign) → IsDecl d xs ys → NoForm ys → decl_at (reading end xs) ≡ Ok (d, reading end ys)
unfolding decl_at
decl-complete end (DV.Type d) xs ys h off = by_word (λ (zs : List Sign). type_decl_at (reading end zs) ≡ Ok (d, reading end ys) → decl_at (reading end zs) ≡ Ok (DV.Type d, reading end ys)) (codes "type") xs h.0 h.2 (λ at e. rw e refl) (type_decl-complete end d xs ys h off)
decl-complete end (DV.Advanced n) xs ys h off = by_word (λ (zs : List Sign). decl_at (reading end zs) ≡ Ok (DV.Advanced n, reading end ys)) (codes "advanced") xs h.0 h.1 (λ at. rw (type-complete end n h.0 ys h.2) refl)

decl_starts : (d : Decl) (xs ys : List Sign) → IsDecl d xs ys → NoForm xs
decl_starts (DV.Type d) xs ys h = by_word NoForm (codes "type") xs h.0 h.2 (λ at. refl)
decl_starts (DV.Advanced n) xs ys h = by_word NoForm (codes "advanced") xs h.0 h.1 (λ at. refl)

decl_goes : (d : Decl) (xs ys : List Sign) → IsDecl d xs ys → none_left xs ≡ false
decl_goes (DV.Type d) xs ys h = by_word (λ (zs : List Sign). none_left zs ≡ false) (codes "type") xs h.0 h.2 (λ at. refl)
decl_goes (DV.Advanced n) xs ys h = by_word (λ (zs : List Sign). none_left zs ≡ false) (codes "advanced") xs h.0 h.1 (λ at. refl)

-- the declarations that are derived are read
pub decls-complete : (end : ℕ) (all : List Decl) (xs : List Sign) → AreParts IsDecl all xs [] → many_at decl_at is_end (length xs + 1) (reading end xs) ≡ Ok (all, reading end [])
decls-complete end all xs h =
    let few = parts_count IsDecl decl_shorter all xs [] h in
    many-complete decl_at is_end IsDecl NoForm end decl_starts decl_goes (decl-complete end) (length xs + 1) all xs [] h refl refl (omega (arith, few))

-- the tree that is derived is read
pub schema-complete : (src : List ℕ) (ts : List Token) (tree : Ast) → Derives src ts tree → schema_at (stream src ts) ≡ Ok tree
unfolding schema_at
schema-complete src ts tree h = let s : Stream = stream src ts in rw (decls-complete s.end tree.decls s.signs h) refl
