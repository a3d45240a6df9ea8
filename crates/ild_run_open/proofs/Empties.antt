-- Empty values: they fit, and have one block.
use Rattle.std.proofs.Common.{◌≡◌, ℕ, suc, zero, ◌≤◌, ◌+◌, ◌^◌, List, [], ◌∷◌, ◌++◌, Bool, true, false, Option, Some, None, refl, sym, ap, ◌∙◌, subst, inl, arith}
use Rattle.std.specs.Prelude.{Contains, IsSomeAnd, is_some, cond, option_and_then}
use Rattle.std.specs.List.{flat_map, range_with_len}
use Rattle.std.specs.Option.{option_map_or}
use Rattle.std.proofs.lemmas.Bool.{le-leb}
use Rattle.std.proofs.lemmas.Option.{same_Some, none-some}
use Rattle.ild_data.proofs.AllOf.{all_contained}
use Rattle.ild_data.specs.Data.{Data}
use Rattle.ild_data.specs.Spell.{spell}
use Rattle.ild_data.specs.Trie.{trie, node_of}
use Rattle.ild_data.specs.TrieBlocks.{block_of, none_or, node_and_beneath, nodes_beneath}
use Rattle.ild_data.specs.TrieShape.{trie_levels}
use Rattle.ild_data.specs.declared.hamt_shape.HamtShape.{HamtShape}
use Rattle.ild_schema.specs.Slots.{form_of, plainly}
use Rattle.ild_schema.specs.Value as V
use Rattle.ild_schema.specs.Value.{Value}
use Rattle.ild_schema.specs.Whole.{is_whole}
use Rattle.ild_schema.specs.declared.def.MapForm.{MapForm}
use Rattle.ild_schema.specs.declared.def.MapForm.TheVariants as MF
use Rattle.ild_schema.specs.declared.def.TypeDef.{TypeDef}
use Rattle.ild_schema.specs.declared.def.TypeDef.TheVariants as D
use Rattle.ild_schema.specs.declared.number.Slot.{Slot}
use Rattle.ild_schema.specs.declared.number.TypeNo.{TypeNo}
use Rattle.ild_schema.specs.declared.row.Row.{Row}
use Rattle.ild_typed.specs.Blocks.{nodes, hamt_nodes}
use Rattle.ild_typed.specs.Fits.{Fits, FitsPast, FormFits}
use Rattle.ild_typed.specs.Hamt.{whole}
use Rattle.ild_typed.specs.Represented.{represented}
use Rattle.ild_typed.specs.Slots.{element_of}
use Rattle.ild_typed.specs.Stands.{bare, blocks_of}
use Rattle.ild_typed.specs.Typed.{Typed}
use Rattle.ild_run_open.specs.Empty.{empty_in, empty_blocks, value_blocks, IsEmpty}

-- ---- they fit

list_fits : (rows : List Row) (r : ℕ) (s elem : Slot) (at : ℕ) → form_of rows s ≡ Some (D.List elem at) → Fits rows (suc r) s (V.list V.no_values)
unfolding FitsPast
list_fits rows r s elem at is = subst (λ o. IsSomeAnd o (FormFits rows (suc r) (FitsPast rows r) (V.list V.no_values))) (sym is) (omega arith, tt)

map_fits : (rows : List Row) (r : ℕ) → 4 ≤ r → (s : Slot) (key : TypeNo) (key_at : ℕ) (value : Slot) (at : ℕ) (form : MapForm) → form_of rows s ≡ Some (D.Map key key_at value at form) → Fits rows (suc r) s (V.map V.no_pairs)
unfolding FitsPast
map_fits rows r le s key key_at value at MF.Map is = subst (λ o. IsSomeAnd o (FormFits rows (suc r) (FitsPast rows r) (V.map V.no_pairs))) (sym is) (omega arith, (tt, tt))
map_fits rows r le s key key_at value at MF.ListPairs is = subst (λ o. IsSomeAnd o (FormFits rows (suc r) (FitsPast rows r) (V.map V.no_pairs))) (sym is) (omega (arith, le), (tt, tt))
map_fits rows r le s key key_at value at (MF.StringPairs inner entry) is = subst (λ o. IsSomeAnd o (FormFits rows (suc r) (FitsPast rows r) (V.map V.no_pairs))) (sym is) (omega arith, (tt, tt))
map_fits rows r le s key key_at value at (MF.Hamt p) is = subst (λ o. IsSomeAnd o (FormFits rows (suc r) (FitsPast rows r) (V.map V.no_pairs))) (sym is) (omega (arith, le), inl (tt, tt))

-- ---- by the form of a type

-- what holds of the empty list and of the empty map holds of the empty value
module _ (P : Value → Type 0) (o : Option TypeDef) (lists : (elem : Slot) (at : ℕ) → o ≡ Some (D.List elem at) → P (V.list V.no_values))
    (maps : (key : TypeNo) (key_at : ℕ) (value : Slot) (at : ℕ) (form : MapForm) → o ≡ Some (D.Map key key_at value at form) → P (V.map V.no_pairs)) where
  in_form : (d : TypeDef) (v : Value) → o ≡ Some d → empty_in d ≡ Some v → P v
  in_form (D.List elem at) v is e = subst P (same_Some (V.list V.no_values) v e) (lists elem at is)
  in_form (D.Map key key_at value at form) v is e = subst P (same_Some (V.map V.no_pairs) v e) (maps key key_at value at form is)
  in_form D.Bool v is e = absurd (none-some v e)
  in_form D.Text v is e = absurd (none-some v e)
  in_form D.Bytes v is e = absurd (none-some v e)
  in_form D.Int v is e = absurd (none-some v e)
  in_form D.Any v is e = absurd (none-some v e)
  in_form (D.Link target) v is e = absurd (none-some v e)
  in_form (D.Unit form) v is e = absurd (none-some v e)
  in_form (D.Struct s) v is e = absurd (none-some v e)
  in_form (D.Union u) v is e = absurd (none-some v e)
  in_form (D.Enum m) v is e = absurd (none-some v e)
  in_form (D.Copy target) v is e = absurd (none-some v e)

  pub by_form : (p : Option TypeDef) → o ≡ p → (v : Value) → option_and_then empty_in p ≡ Some v → P v
  by_form None is v e = absurd (none-some v e)
  by_form (Some d) is v e = in_form d v is e

pub fits : (rows : List Row) (ty : TypeNo) (v : Value) → IsEmpty rows ty v → Fits rows 96 (plainly ty) v
fits rows ty v e = by_form (λ w. Fits rows 96 (plainly ty) w) (form_of rows (plainly ty)) (list_fits rows 95 (plainly ty)) (map_fits rows 95 (omega arith) (plainly ty)) (form_of rows (plainly ty)) refl v e

is_all : (rows : List Row) (ty : TypeNo) (v : Value) → IsEmpty rows ty v → is_whole v ≡ true
is_all rows ty v e = by_form (λ w. is_whole w ≡ true) (form_of rows (plainly ty)) (λ elem at is. refl) (λ key key_at value at form is. refl) (form_of rows (plainly ty)) refl v e

pub typed : (rows : List Row) (ty : TypeNo) (v : Value) → IsEmpty rows ty v → Typed rows (plainly ty) v
typed rows ty v e = (96, fits rows ty v e, is_all rows ty v e)

-- ---- no node stands beneath

none_in_all : {X A : Type 0} (f : X → List A) → ((x : X) → f x ≡ []) → (xs : List X) → flat_map f xs ≡ []
none_in_all f none [] = refl
none_in_all f none (x ∷ xs) = ap (λ ys. ys ++ flat_map f xs) (none x) ∙ none_in_all f none xs

-- a bucket takes no entries
none_of_none : (most : ℕ) (below : List (List ℕ × Data) → Option Data) (beneath : List (List ℕ × Data) → List (List ℕ)) → node_and_beneath most below beneath [] ≡ []
none_of_none most below beneath = ap (λ b. none_or b (λ fs. block_of (below fs) ++ beneath fs) []) (le-leb 0 most (omega arith))

none_beneath : (h : List ℕ → List ℕ) (p : HamtShape) (left depth : ℕ) → nodes_beneath h p left depth [] ≡ []
unfolding nodes_beneath
none_beneath h p zero depth = refl
none_beneath h p (suc left) depth =
    none_in_all (λ (i : ℕ). node_and_beneath p.bucket (node_of h p left (depth + 1)) (nodes_beneath h p left (depth + 1)) []) (λ i. none_of_none p.bucket (node_of h p left (depth + 1)) (nodes_beneath h p left (depth + 1)))
    (range_with_len 0 (2 ^ p.width))

abbrev no_list : List (List ℕ)
no_list = []

nothing_at : (o : Option Slot) → option_map_or (λ u. no_list) o [] ≡ []
nothing_at None = refl
nothing_at (Some u) = refl

cond_nothing : {A : Type 0} (b : Bool) (xs : List A) → xs ≡ [] → cond b xs [] ++ [] ≡ []
cond_nothing true xs is = ap (λ ys. ys ++ []) is
cond_nothing false xs is = refl

map_nodes : (h : List ℕ → List ℕ) (key : TypeNo) (key_at : ℕ) (value : Slot) (at : ℕ) (form : MapForm) → hamt_nodes h (Some (D.Map key key_at value at form)) (Some []) ++ [] ≡ []
map_nodes h key key_at value at MF.Map = refl
map_nodes h key key_at value at MF.ListPairs = refl
map_nodes h key key_at value at (MF.StringPairs inner entry) = refl
map_nodes h key key_at value at (MF.Hamt p) =
    cond_nothing (is_some (trie h p [] 0)) (nodes_beneath h p (trie_levels p) 0 []) (none_beneath h p (trie_levels p) 0)

no_nodes : (h : List ℕ → List ℕ) (rows : List Row) (ty : TypeNo) (v : Value) → IsEmpty rows ty v → nodes h rows (plainly ty) v ≡ []
no_nodes h rows ty v e = by_form (λ w. nodes h rows (plainly ty) w ≡ []) (form_of rows (plainly ty)) (λ elem at is. nothing_at (element_of (form_of rows (plainly ty))))
    (λ key key_at value at form is. subst (λ o. option_map_or (λ u. hamt_nodes h o (Some []) ++ []) (element_of o) [] ≡ []) (sym is) (map_nodes h key key_at value at form))
    (form_of rows (plainly ty)) refl v e

pub nodes_gone : (h : List ℕ → List ℕ) (rows : List Row) (ty : TypeNo) (v : Value) (P : List (List ℕ) → Type 0) → IsEmpty rows ty v → P (nodes h rows (plainly ty) v) → P []
nodes_gone h rows ty v P e p = subst P (no_nodes h rows ty v e) p

-- ---- its one block

pub one_block : (h : List ℕ → List ℕ) (rows : List Row) (ty : TypeNo) (v : Value) (d : Data) → IsEmpty rows ty v → blocks_of bare h rows ty v d ≡ spell d ∷ []
one_block h rows ty v d e = ap (λ ns. spell d ∷ (ns ++ [])) (no_nodes h rows ty v e)

pub empty_block : (h : List ℕ → List ℕ) (rows : List Row) (ty : TypeNo) (v : Value) (d : Data) → IsEmpty rows ty v → represented (whole h) rows (plainly ty) v ≡ Some d → empty_blocks h rows ty ≡ spell d ∷ []
empty_block h rows ty v d e rep =
    ap (λ o. option_map_or (value_blocks h rows ty) o []) e ∙ (ap (λ o. option_map_or (blocks_of bare h rows ty v) o []) rep ∙ one_block h rows ty v d e)

-- ---- what is among no blocks, and among one

pub not_in_none : (b : List ℕ) → Contains [] b → ⊥
not_in_none b among = all_contained (λ (c : List ℕ). ⊥) [] b tt among

pub is_one : (block b : List ℕ) → Contains (block ∷ []) b → block ≡ b
is_one block b among = all_contained (λ c. block ≡ c) (block ∷ []) b (refl, tt) among
