-- The lines of heads, one after another.
use Rattle.std.proofs.Common.{◌≡◌, ℕ, ◌+◌, ◌<◌, List, [], ◌∷◌, ◌++◌, length, get_or, take, drop, Option, sym, ap, ◌∙◌, subst, append-nil}
use Rattle.std.specs.List.{flat_map}
use Rattle.std.proofs.lemmas.Grind.{flat_map-append}
use Rattle.std.proofs.lemmas.List.{take-append-drop, take_more}
use Rattle.ild_edges.specs.Sink.{Appends, AppendsFront}
use Rattle.ild_edges.proofs.Written.{appends_then, front_more, front_then}

module _ (f : List ℕ → List ℕ) (xs : List (List ℕ)) (i : ℕ) (x : List ℕ) (lt : i < length xs) (is : x ≡ get_or xs i x) where
  more : flat_map f (take (i + 1) xs) ≡ flat_map f (take i xs) ++ f x
  more = ap (flat_map f) (take_more xs i x lt) ∙ flat_map-append f (take i xs) (get_or xs i x ∷ []) ∙ ap (λ z. flat_map f (take i xs) ++ z) (append-nil (f (get_or xs i x))) ∙ ap (λ z. flat_map f (take i xs) ++ f z) (sym is)

  pub one_more : (a b c : Option (List ℕ)) → Appends a b (flat_map f (take i xs)) → Appends b c (f x) → Appends a c (flat_map f (take (i + 1) xs))
  one_more a b c p q = subst (Appends a c) (sym more) (appends_then a b c (flat_map f (take i xs)) (f x) p q)

  whole : flat_map f xs ≡ (flat_map f (take i xs) ++ f x) ++ flat_map f (drop (i + 1) xs)
  whole = ap (flat_map f) (sym (take-append-drop (i + 1) xs)) ∙ flat_map-append f (take (i + 1) xs) (drop (i + 1) xs) ∙ ap (λ z. z ++ flat_map f (drop (i + 1) xs)) more

  pub one_cut : (a b c : Option (List ℕ)) → Appends a b (flat_map f (take i xs)) → AppendsFront b c (f x) → AppendsFront a c (flat_map f xs)
  one_cut a b c p q = subst (AppendsFront a c) (sym whole) (front_more a c (flat_map f (take i xs) ++ f x) (flat_map f (drop (i + 1) xs)) (front_then a b c (flat_map f (take i xs)) (f x) p q))
