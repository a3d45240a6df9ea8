-- What stands for a whole HAMT tells its entries, where they rise in the key order and the nodes beneath are known by their ids.
use Rattle.std.proofs.Common.{◌≡◌, ℕ, ◌<◌, ◌≤◌, ◌^◌, arith, length, List, [], ◌∷◌, Option, Some, refl, sym, ◌∙◌, ap, subst}
use Rattle.std.specs.Prelude.{option_and_then, pos, codes}
use Rattle.std.proofs.lemmas.Option.{same_Some, none-some}
use Rattle.ild_data.specs.Data as T
use Rattle.ild_data.specs.Data.{Data}
use Rattle.ild_data.specs.Spell.{spell, id_of}
use Rattle.ild_schema.specs.declared.def.KindWord.TheVariants as K
use Rattle.ild_schema.specs.declared.def.MapForm.TheVariants as MF
use Rattle.ild_data.specs.declared.hamt_shape.HamtShape.{HamtShape}
use Rattle.ild_data.specs.Trie.{trie}
use Rattle.ild_typed.specs.Layer as L
use Rattle.ild_typed.specs.Layer.{Layer, as_map}
use Rattle.ild_typed.specs.Kinds.{kind_word_of}
use Rattle.ild_typed.specs.Hamt.{root_map, whole}
use Rattle.ild_typed.proofs.Basics.{then_from, map_from}
use Rattle.ild_typed.proofs.Onlies.{only_map}
use Rattle.ild_typed.proofs.Entries.{map_tells}
use Rattle.ild_typed.proofs.NodeRoots.{whole_map}
use Rattle.ild_typed.proofs.TrieTells.{trie_tells, sorted_tells}
use Rattle.ild_typed.proofs.OneWhole.{IsExactFor, one_whole}
use Rattle.ild_typed.specs.Known.{FormOk, Kept, IdsTell, IsKept, HeldNode}
use Rattle.ild_schema.specs.declared.number.Slot.{Slot}
use Rattle.ild_schema.specs.declared.row.Row.{Row}
use Rattle.ild_schema.specs.Clear.{IsClear, IsSafe}
use Rattle.ild_schema.specs.Value.{Value}
use Rattle.ild_typed.specs.Represented.{represented}
use Rattle.ild_data.specs.Limits.{longest_block, IsWithin}
use Rattle.ild_data.specs.Tree.{IsTree}
use Rattle.ild_data.proofs.Apart.{one_meaning}

abbrev node_in : Data → List (List ℕ × Data) → Data
node_in z [] = z
node_in z (p ∷ ps) = p.1

module _ (h : List ℕ → List ℕ) (Known : Data → Type 0) (one : IdsTell Known) where
  kept : (p : HamtShape) (l : Layer Data) (es : List (List ℕ × Data)) → as_map l ≡ Some es → FormOk (Kept h Known) (MF.Hamt p) l → Kept h Known p es
  kept p (L.map fs) es e ok = subst (Kept h Known p) (same_Some fs es e) ok
  kept p l es e ok = absurd (none-some es e)

  whole_tells : (p : HamtShape) (l m : Layer Data) (t : Data) → FormOk (Kept h Known) (MF.Hamt p) l → FormOk (Kept h Known) (MF.Hamt p) m → whole h p l ≡ Some t → whole h p m ≡ Some t → l ≡ m
  whole_tells p l m t a b e k =
      let x = map_from (root_map p) (option_and_then (λ es. trie h p es 0) (as_map l)) t e in
      let y = map_from (root_map p) (option_and_then (λ es. trie h p es 0) (as_map m)) t k in
      let u = then_from (λ es. trie h p es 0) (as_map l) x.item x.there in
      let v = then_from (λ es. trie h p es 0) (as_map m) y.item y.there in
      let rest : List (List ℕ × Data) = (codes "hashAlg", T.integer (pos 18)) ∷ (codes "bucketSize", T.integer (pos p.bucket)) ∷ [] in
      let node : y.item ≡ x.item
      = ap (node_in x.item) (map_tells ((codes "hamt", y.item) ∷ rest) ((codes "hamt", x.item) ∷ rest)
      (same_Some (root_map p y.item) t y.made ∙ sym (same_Some (root_map p x.item) t x.made))) in
      let ku : Kept h Known p u.item = kept p l u.item u.there a in
      let kv : Kept h Known p v.item = kept p m v.item v.there b in
      let same = trie_tells h p (whole_map p.width (2 ^ p.width) p.wide refl) Known one u.item v.item x.item ku.1 kv.1 u.made (v.made ∙ ap Some node) in
      only_map l u.item u.there ∙ ap L.map (sorted_tells u.item v.item ku.0 kv.0 same) ∙ sym (only_map m v.item v.there)

  whole_kind : (p : HamtShape) (l : Layer Data) (t : Data) → whole h p l ≡ Some t → kind_word_of t ≡ K.Map
  whole_kind p l t e =
      let x = map_from (root_map p) (option_and_then (λ es. trie h p es 0) (as_map l)) t e in
      ap kind_word_of (sym (same_Some (root_map p x.item) t x.made))

  pub whole_exact : IsExactFor (whole h) (Kept h Known)
  whole_exact = record { tells = whole_tells; kind = whole_kind }

small : (n : ℕ) → n ≤ longest_block → n < 2 ^ 64
small n le = omega (arith, le)

-- blocks that are held under one id are one
pub one_block : (block : List ℕ → Option (List ℕ)) (a b : List ℕ) → block (id_of a) ≡ Some a → block (id_of b) ≡ Some b → id_of a ≡ id_of b → a ≡ b
one_block block a b x y same = same_Some a b (sym x ∙ ap block same ∙ y)

pub one_within : (d e : Data) → IsWithin d → IsTree e → spell d ≡ spell e → d ≡ e
one_within d e a b same = one_meaning d e a.tree b (small (length (spell d)) a.sized) same

pub ids_tell : (block : List ℕ → Option (List ℕ)) → IdsTell (HeldNode block)
ids_tell block n m a b e = one_within n m a.within b.within.tree (one_block block (spell n) (spell m) a.there b.there e)

pub whole_law : (h : List ℕ → List ℕ) (block : List ℕ → Option (List ℕ)) (rows : List Row) → IsClear rows → (s : Slot) → IsSafe rows s
    → (v w : Value) (d : Data) → IsKept h (HeldNode block) rows s v → IsKept h (HeldNode block) rows s w
    → represented (whole h) rows s v ≡ Some d → represented (whole h) rows s w ≡ Some d → v ≡ w
whole_law = λ h block rows clear s safe v w t gv gw e k.
    one_whole (whole h) (Kept h (HeldNode block)) (whole_exact h (HeldNode block) (ids_tell block)) rows clear s safe v w t gv gw e k
