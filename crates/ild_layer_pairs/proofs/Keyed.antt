-- A key among those that were met, in their order.
use Rattle.std.proofs.Common.{◌≡◌, ℕ, List, [], ◌∷◌, map, Bool, true, false, ◌||◌, refl, sym, ◌∙◌, ap}
use Rattle.std.specs.Borrow.{Bor}
use Rattle.std.specs.List.{list_any}
use Rattle.std.specs.Ordering.{is_eq, match_ordering, nat_cmp}
use Rattle.std.specs.BTreeSet.{insert_key}
use Rattle.std.proofs.lemmas.Map.Text.{is_eq-slice_cmp}
use Rattle.std.specs.Cmp.Lexicographic.{same_text as text_same, slice_cmp}
use Rattle.std.specs.declared.cmp.Ordering.{Ordering}
use Rattle.std.specs.declared.cmp.Ordering.TheVariants.{Less, Equal, Greater}
use Rattle.ild_data.specs.Key.{same_text}

abbrev pub key_cmp : Bor (List ℕ) → Bor (List ℕ) → Ordering
key_cmp x y = slice_cmp nat_cmp x.now y.now

pub texts_known : (k : Bor (List ℕ)) (ks : List (Bor (List ℕ))) → list_any (λ x. is_eq (slice_cmp nat_cmp k.now x.now)) ks ≡ list_any (same_text k.now) (map (λ (x : Bor (List ℕ)). x.now) ks)
texts_known k [] = refl
texts_known k (x ∷ ks) = ap (λ b. b || list_any (λ y. is_eq (slice_cmp nat_cmp k.now y.now)) ks) (is_eq-slice_cmp k.now x.now) ∙ ap (λ b. same_text k.now x.now || b) (texts_known k ks)

equal_texts : (k x : Bor (List ℕ)) → slice_cmp nat_cmp k.now x.now ≡ Equal → k.now ≡ x.now
equal_texts k x e = text_same k.now x.now (sym (sym (is_eq-slice_cmp k.now x.now) ∙ ap is_eq e))

pub texts_more : (q : List ℕ) (k : Bor (List ℕ)) (ks : List (Bor (List ℕ))) → list_any (same_text q) (map (λ (x : Bor (List ℕ)). x.now) (insert_key key_cmp ks k))
    ≡ (same_text q k.now || list_any (same_text q) (map (λ (x : Bor (List ℕ)). x.now) ks))
texts_more q k [] = refl
texts_more q k (x ∷ ks) = by (slice_cmp nat_cmp k.now x.now) refl (texts_more q k ks) where
  twice : (a b : Bool) → (a || b) ≡ (a || (a || b))
  twice true b = refl
  twice false b = refl

  swap : (a b c : Bool) → (a || (b || c)) ≡ (b || (a || c))
  swap true true c = refl
  swap true false c = refl
  swap false true c = refl
  swap false false c = refl

  by : (o : Ordering) → slice_cmp nat_cmp k.now x.now ≡ o
      → list_any (same_text q) (map (λ (y : Bor (List ℕ)). y.now) (insert_key key_cmp ks k)) ≡ (same_text q k.now || list_any (same_text q) (map (λ (y : Bor (List ℕ)). y.now) ks))
      → list_any (same_text q) (map (λ (y : Bor (List ℕ)). y.now) (match_ordering o (k ∷ x ∷ ks) (x ∷ ks) (x ∷ insert_key key_cmp ks k)))
      ≡ (same_text q k.now || (same_text q x.now || list_any (same_text q) (map (λ (y : Bor (List ℕ)). y.now) ks)))
  by Less e rest = refl
  by Equal e rest =
      twice (same_text q x.now) (list_any (same_text q) (map (λ (y : Bor (List ℕ)). y.now) ks))
      ∙ ap (λ t. same_text q t || (same_text q x.now || list_any (same_text q) (map (λ (y : Bor (List ℕ)). y.now) ks))) (sym (equal_texts k x e))
  by Greater e rest = ap (λ b. same_text q x.now || b) rest ∙ swap (same_text q x.now) (same_text q k.now) (list_any (same_text q) (map (λ (y : Bor (List ℕ)). y.now) ks))
