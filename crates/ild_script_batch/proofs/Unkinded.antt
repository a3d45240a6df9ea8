-- The places of a walk's tree, as those of a value.
use Rattle.std.proofs.Common.{◌≡◌, inl, inr, ℕ, List, [], ◌∷◌, ◌++◌, map, refl, ap, ◌∙◌, arith}
use Rattle.std.specs.Prelude.{Contains}
use Rattle.std.proofs.lemmas.List.{map-append}
use Rattle.std.proofs.lemmas.List.Elements.{Contains-append_left, Contains-append_right}
use Rattle.ild_data.proofs.AllOf.{contains_more}
use Rattle.ild_data.specs.Spell.{id_of}
use Rattle.ild_dirty.specs.Beneath as B
use Rattle.ild_dirty.specs.Beneath.{AreTrees, HasPlace, HasPlaceBelow, IsTree}
use Rattle.ild_typed_places.specs.Places.{Place, Places, blocks_in, down_from, each_place, tops}
use Rattle.ild_script_batch.specs.Commits.{put_before, unkinded}

mutual
  pub blocks_before : (t : B.Place) (rest : Places) → blocks_in (put_before t rest) ≡ B.blocks_in t ++ blocks_in rest
  blocks_before (B.place b k ts) rest = ap (λ bs. b ∷ (bs ++ blocks_in rest)) (blocks_are ts)

  pub blocks_are : (ts : B.Places) → blocks_in (unkinded ts) ≡ B.blocks_below ts
  blocks_are B.no_places = refl
  blocks_are (B.beside t ts) = blocks_before t (unkinded ts) ∙ ap (λ bs. B.blocks_in t ++ bs) (blocks_are ts)

abbrev pub listed : Place → List ℕ × List (List ℕ)
listed q = (q.0, down_from q)

mutual
  pub places_before : (t : B.Place) (rest : Places) → map listed (each_place (put_before t rest)) ≡ B.places_in t ++ map listed (each_place rest)
  places_before (B.place b k ts) rest =
      ap (λ bs. (b, b ∷ bs) ∷ map listed (each_place (unkinded ts) ++ each_place rest)) (blocks_are ts)
      ∙ ap (λ ps. (b, b ∷ B.blocks_below ts) ∷ ps) (map-append listed (each_place (unkinded ts)) (each_place rest) ∙ ap (λ ps. ps ++ map listed (each_place rest)) (places_are ts))

  pub places_are : (ts : B.Places) → map listed (each_place (unkinded ts)) ≡ B.places_below ts
  places_are B.no_places = refl
  places_are (B.beside t ts) = places_before t (unkinded ts) ∙ ap (λ ps. B.places_in t ++ ps) (places_are ts)

-- ---- children

tops_before : (t : B.Place) (rest : Places) → tops (put_before t rest) ≡ B.block_of t ∷ tops rest
tops_before (B.place b k ts) rest = refl

tops_are : (children : ℕ → List ℕ → List (List ℕ × ℕ)) (cs : List (List ℕ × ℕ)) (ts : B.Places) → AreTrees children cs ts → map id_of (tops (unkinded ts)) ≡ map (λ (c : List ℕ × ℕ). c.0) cs
tops_are children [] B.no_places trees = refl
tops_are children [] (B.beside t ts) trees = absurd trees
tops_are children (c ∷ cs) B.no_places trees = absurd trees
tops_are children (c ∷ cs) (B.beside t ts) trees =
    ap (map id_of) (tops_before t (unkinded ts)) ∙ ap (λ (i : List ℕ). i ∷ map id_of (tops (unkinded ts))) trees.0 ∙ ap (λ is. c.0 ∷ is) (tops_are children cs ts trees.3)

-- a place of a block with the children that it has as one of this kind
pub record HasKind (children : ℕ → List ℕ → List (List ℕ × ℕ)) (ps : List Place) (b : List ℕ) (kind : ℕ) : Type 0 where
  pub at : Place
  pub among : Contains ps at
  pub is : at.0 ≡ b
  pub ids : map id_of (tops at.1) ≡ map (λ (c : List ℕ × ℕ). c.0) (children kind b)

further : (children : ℕ → List ℕ → List (List ℕ × ℕ)) (ps qs : List Place) (b : List ℕ) (kind : ℕ) → ((q : Place) → Contains ps q → Contains qs q) → HasKind children ps b kind → HasKind children qs b kind
further children ps qs b kind up x = record { at = x.at; among = up x.at x.among; is = x.is; ids = x.ids }

behind : (t : B.Place) (rest : Places) (q : Place) → Contains (each_place rest) q → Contains (each_place (put_before t rest)) q
behind (B.place b k ts) rest q here = contains_more (b, unkinded ts) (each_place (unkinded ts) ++ each_place rest) q (Contains-append_right (each_place (unkinded ts)) (each_place rest) q here)

mutual
  pub kind_at : (children : ℕ → List ℕ → List (List ℕ × ℕ)) (t : B.Place) (rest : Places) → IsTree children t → (c : List ℕ) (j : ℕ) → HasPlace t c j → HasKind children (each_place (put_before t rest)) c j
  kind_at children (B.place b k ts) rest tree c j (inl here) = record {
    at = (b, unkinded ts);
    among = (0, omega arith, refl);
    is = here.0;
    ids = tops_are children (children k b) ts tree ∙ ap (map (λ (x : List ℕ × ℕ). x.0)) (rw (here.0, here.1) refl);
  }
  kind_at children (B.place b k ts) rest tree c j (inr below) =
      further children (each_place (unkinded ts)) (each_place (put_before (B.place b k ts) rest)) c j
      (λ q here. contains_more (b, unkinded ts) (each_place (unkinded ts) ++ each_place rest) q (Contains-append_left (each_place (unkinded ts)) (each_place rest) q here))
      (kind_below children (children k b) ts tree c j below)

  kind_below : (children : ℕ → List ℕ → List (List ℕ × ℕ)) (cs : List (List ℕ × ℕ)) (ts : B.Places) → AreTrees children cs ts → (c : List ℕ) (j : ℕ) → HasPlaceBelow ts c j → HasKind children (each_place (unkinded ts)) c j
  kind_below children cs B.no_places trees c j below = absurd below
  kind_below children [] (B.beside t ts) trees c j below = absurd trees
  kind_below children (d ∷ cs) (B.beside t ts) trees c j (inl here) = kind_at children t (unkinded ts) trees.2 c j here
  kind_below children (d ∷ cs) (B.beside t ts) trees c j (inr more) = further children (each_place (unkinded ts)) (each_place (put_before t (unkinded ts))) c j (behind t (unkinded ts)) (kind_below children cs ts trees.3 c j more)
