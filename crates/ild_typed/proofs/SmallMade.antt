-- What acceptance says of data can be met: a small schema with a stringjoin, a kinded and an inline union and a HAMT.
use Rattle.std.proofs.Common.{◌≡◌, ℕ, zero, suc, List, [], ◌∷◌, ◌++◌, true, false, Option, Some, None, refl, sym, ◌∙◌, ap, subst}
use Rattle.std.specs.Prelude.{codes, pos, slice_get, option_map, bytes_eq}
use Rattle.std.specs.List.{AllByRecursion}
use Rattle.std.proofs.Math.Utf8.{encode}
use Rattle.std.proofs.lemmas.Option.{same_Some, none-some}
use Rattle.ild_data.specs.Data as T
use Rattle.ild_data.specs.Data.{depth}
use Rattle.ild_schema.specs.declared.def.TypeDef.{TypeDef}
use Rattle.ild_schema.specs.declared.def.TypeDef.TheVariants as D
use Rattle.ild_schema.specs.declared.def.StructDef.{StructDef}
use Rattle.ild_schema.specs.declared.def.StructForm.TheVariants as S
use Rattle.ild_schema.specs.declared.def.UnionForm.TheVariants as UF
use Rattle.ild_schema.specs.declared.def.MapForm.TheVariants as MF
use Rattle.ild_schema.specs.declared.def.KindWord.TheVariants as K
use Rattle.ild_schema.specs.declared.def.Field.{Field}
use Rattle.ild_schema.specs.declared.def.Member.{Member}
use Rattle.ild_schema.specs.declared.def.Mark.TheVariants as M
use Rattle.ild_schema.specs.declared.row.Row.{Row}
use Rattle.ild_schema.specs.Table.{def_at}
use Rattle.ild_schema.specs.Prelude.{prelude, given, number}
use Rattle.ild_schema.specs.Slots.{plainly}
use Rattle.ild_data.specs.TrieShape.{usual}
use Rattle.ild_typed.specs.Hamt.{root_map}
use Rattle.ild_data.specs.Trie.{bucket, node_data}
use Rattle.ild_schema.specs.DataKinds.{same_kind}
use Rattle.ild_schema.specs.Marks.{mark_kind}
use Rattle.ild_schema.specs.Clear.{Clash, ClearType, AreSafe, IsClear}
use Rattle.ild_schema.specs.Spelled.{SpelledType, IsSpelled, NamedType, IsNamed}
use Rattle.ild_schema.specs.Made.{HasOnly, IsTextSlot, MadeType, IsMade}
use Rattle.ild_typed.proofs.Entries.{same_text_self}

abbrev field : List ℕ → ℕ → Field
field name n = record { name = name; at = 0; optional = false; slot = plainly (number n); rename = None; implicit = None }

-- struct { a String b String } representation stringjoin ","
abbrev joined : TypeDef
joined = D.Struct (record { fields = field (codes "a") 7 ∷ field (codes "b") 7 ∷ []; form = S.StringJoin (codes ",") })

abbrev flag : Member
flag = record { name = codes "Bool"; at = 0; ty = number 1; mark = M.Kind K.Bool }

abbrev word : Member
word = record { name = codes "String"; at = 0; ty = number 7; mark = M.Kind K.Text }

-- union { | Bool bool | String string } representation kinded
abbrev kinded : TypeDef
kinded = D.Union (record { members = flag ∷ word ∷ []; form = UF.Kinded })

abbrev box_def : StructDef
box_def = record { fields = field (codes "w") 3 ∷ []; form = S.Map }

abbrev inlined_box : Member
inlined_box = record { name = codes "Box"; at = 0; ty = number 10; mark = M.Text (codes "box") }

-- union { | Box "box" } representation inline { discriminantKey "tag" }
abbrev inlined : TypeDef
inlined = D.Union (record { members = inlined_box ∷ []; form = UF.Inline (codes "tag") })

-- {String:Int} representation advanced HAMT
abbrev hamt : TypeDef
hamt = D.Map (number 7) 0 (plainly (number 3)) 0 (MF.Hamt usual)

abbrev rows : List Row
rows = prelude ++ given (codes "Joined") joined ∷ given (codes "Kinded") kinded ∷ given (codes "Box") (D.Struct box_def) ∷ given (codes "Inlined") inlined ∷ given (codes "Many") hamt ∷ []

by_number : (P : TypeDef → Type 0) → ((n : ℕ) (r : Row) → slice_get rows n ≡ Some r → P r.def) → (n : ℕ) (d : TypeDef) → def_at rows n ≡ Some d → P d
by_number P each n d e = go (slice_get rows n) refl e where
  go : (o : Option Row) → slice_get rows n ≡ o → option_map (λ (r : Row). r.def) o ≡ Some d → P d
  go None h k = absurd (none-some d k)
  go (Some r) h k = subst P (same_Some r.def d k) (each n r h)

each_row : (P : TypeDef → Type 0) (rs : List Row) → AllByRecursion (λ (r : Row). P r.def) rs → (n : ℕ) (r : Row) → slice_get rs n ≡ Some r → P r.def
each_row P [] all n r e = absurd (none-some r e)
each_row P (x ∷ rs) all zero r e = subst (λ (y : Row). P y.def) (same_Some x r e) all.0
each_row P (x ∷ rs) all (suc n) r e = each_row P rs all.1 n r e

false_true : false ≡ true → ⊥
false_true e = absurd cc

other : (s t : List ℕ) → bytes_eq s t ≡ false → s ≡ t → ⊥
other s t apart e = false_true (sym apart ∙ ap (bytes_eq s) (sym e) ∙ same_text_self s)

-- ---- kinds

text_only : HasOnly rows (plainly (number 7)) K.Text
text_only K.Text e = refl
text_only K.Null e = absurd (false_true e)
text_only K.Bool e = absurd (false_true e)
text_only K.Int e = absurd (false_true e)
text_only K.Bytes e = absurd (false_true e)
text_only K.List e = absurd (false_true e)
text_only K.Map e = absurd (false_true e)
text_only K.Link e = absurd (false_true e)

bool_only : HasOnly rows (plainly (number 1)) K.Bool
bool_only K.Bool e = refl
bool_only K.Null e = absurd (false_true e)
bool_only K.Text e = absurd (false_true e)
bool_only K.Int e = absurd (false_true e)
bool_only K.Bytes e = absurd (false_true e)
bool_only K.List e = absurd (false_true e)
bool_only K.Map e = absurd (false_true e)
bool_only K.Link e = absurd (false_true e)

text_slot : IsTextSlot rows (plainly (number 7))
text_slot = record { plain = refl; only = text_only }

made : IsMade rows
made = by_number (MadeType rows) (each_row (MadeType rows) rows (tt, (tt, (tt, (tt, (tt, (tt, (tt, (tt, (((text_slot, refl), ((text_slot, refl), tt)), (((K.Bool, refl, bool_only), ((K.Text, refl, text_only), tt)), (tt, ((((codes "box", refl), record { struct = box_def; known = refl; form = refl; apart = (other (codes "tag") (codes "w") refl, tt) }), tt), (tt, tt))))))))))))))

-- ---- texts

spelled : IsSpelled rows
unfolding encode
spelled =
    by_number SpelledType
    (each_row SpelledType rows (
      tt,
      (
        tt,
        (
          tt,
          (
            tt,
            (
              tt,
              (
                tt,
                (
                  tt,
                  (
                    tt,
                    (
                      record { delims = (codes ",", (refl, refl)); texts = ((codes "a", (refl, refl)), ((codes "b", (refl, refl)), tt)) },
                      (record { marks = (tt, (tt, tt)); keys = tt }, (record { delims = tt; texts = ((codes "w", (refl, refl)), tt) }, (record { marks = ((codes "box", (refl, refl)), tt); keys = (codes "tag", (refl, refl)) }, (tt, tt)))),
                    ),
                  ),
                ),
              ),
            ),
          ),
        ),
      ),
    ))

named : IsNamed rows
unfolding encode
named = by_number NamedType (each_row NamedType rows (tt, (tt, (tt, (tt, (tt, (tt, (tt, (tt, (((codes "a", (refl, refl)), ((codes "b", (refl, refl)), tt)), (((codes "Bool", (refl, refl)), ((codes "String", (refl, refl)), tt)), (((codes "w", (refl, refl)), tt), (((codes "Box", (refl, refl)), tt), (tt, tt))))))))))))))

-- ---- members apart

not_both : (m n : Member) → m ≡ flag → n ≡ word → Clash UF.Kinded m n → ⊥
not_both m n mf nw (k, l, hm, hn, same) =
    let x : K.Bool ≡ k = same_Some K.Bool k (sym (ap (λ (j : Member). mark_kind j.mark) mf) ∙ hm) in
    let y : K.Text ≡ l = same_Some K.Text l (sym (ap (λ (j : Member). mark_kind j.mark) nw) ∙ hn) in
    false_true (ap (λ i. same_kind i K.Text) x ∙ ap (same_kind k) y ∙ same)

not_back : (m n : Member) → m ≡ word → n ≡ flag → Clash UF.Kinded m n → ⊥
not_back m n mw nf (k, l, hm, hn, same) =
    let x : K.Text ≡ k = same_Some K.Text k (sym (ap (λ (j : Member). mark_kind j.mark) mw) ∙ hm) in
    let y : K.Bool ≡ l = same_Some K.Bool l (sym (ap (λ (j : Member). mark_kind j.mark) nf) ∙ hn) in
    false_true (ap (λ i. same_kind i K.Bool) x ∙ ap (same_kind k) y ∙ same)

kinds_apart : (i j : ℕ) (m n : Member) → slice_get (flag ∷ word ∷ []) i ≡ Some m → slice_get (flag ∷ word ∷ []) j ≡ Some n → Clash UF.Kinded m n → i ≡ j
kinds_apart zero zero m n hm hn c = refl
kinds_apart zero (suc zero) m n hm hn c = absurd (not_both m n (sym (same_Some flag m hm)) (sym (same_Some word n hn)) c)
kinds_apart (suc zero) zero m n hm hn c = absurd (not_back m n (sym (same_Some word m hm)) (sym (same_Some flag n hn)) c)
kinds_apart (suc zero) (suc zero) m n hm hn c = refl
kinds_apart (suc (suc i)) j m n hm hn c = absurd (none-some m hm)
kinds_apart zero (suc (suc j)) m n hm hn c = absurd (none-some n hn)
kinds_apart (suc zero) (suc (suc j)) m n hm hn c = absurd (none-some n hn)

one_apart : (i j : ℕ) (m n : Member) → slice_get (inlined_box ∷ []) i ≡ Some m → slice_get (inlined_box ∷ []) j ≡ Some n → Clash (UF.Inline (codes "tag")) m n → i ≡ j
one_apart zero zero m n hm hn c = refl
one_apart (suc i) j m n hm hn c = absurd (none-some m hm)
one_apart zero (suc j) m n hm hn c = absurd (none-some n hn)

clear : IsClear rows
clear = record {
  types = by_number ClearType (each_row ClearType rows (tt, (tt, (tt, (tt, (tt, (tt, (tt, (tt, (tt, (record { apart = kinds_apart; keys = tt }, (record { apart = (tt, tt); required = ((λ h. refl), tt) }, (record { apart = one_apart; keys = tt }, (tt, tt))))))))))))));
  parts = by_number (AreSafe rows) (each_row (AreSafe rows) rows (tt, (tt, (tt, (tt, (tt, ((λ h. refl), ((λ h. refl), (tt, (((λ h. refl), ((λ h. refl), tt)), (tt, (((λ h. refl), tt), (tt, ((λ h. refl), tt))))))))))))));
}

-- the levels of a HAMT are reached: five in the block of its root, and four in that of a node beneath
root_reached : depth (root_map usual (node_data (bucket ((codes "k", T.integer (pos 1)) ∷ []) ∷ []))) ≡ 5
root_reached = refl

node_reached : depth (node_data (bucket ((codes "k", T.integer (pos 1)) ∷ []) ∷ [])) ≡ 4
node_reached = refl
