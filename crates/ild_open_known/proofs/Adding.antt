-- What a look-up finds is among what was added, and one more adds no other.
use Rattle.std.proofs.Common.{◌≡◌, ◌⊎◌, inl, inr, ℕ, ◌<◌, List, length, map, refl, sym, ◌∙◌, ap, ap₂, subst, get_or}
use Rattle.std.specs.Prelude.{Contains}
use Rattle.std.specs.List.{All, IsAmong}
use Rattle.std.specs.Map.{values_of}
use Rattle.std.specs.BTreeMap.{insert_entry}
use Rattle.std.specs.declared.cmp.Ordering.{Ordering}
use Rattle.std.proofs.lemmas.List.{get_or-map, length-map}
use Rattle.std.proofs.lemmas.Map.Views.{All-values-insert_entry}
use Rattle.ild_open_known.specs.Covers.{Covers, IsKnown, IsKnownNode, IsSpot}
use Rattle.ild_open_known.specs.Roots.{seen_root, seen_spot}
use Rattle.ild_open_known.specs.declared.kind.ReadAs.{ReadAs}
use Rattle.ild_open_known.specs.declared.table.Root.{Root}
use Rattle.ild_open_known.specs.declared.table.Spot.{Spot}

module _ {R X : Type 0} (seen : R → X) where
  -- what is among them is seen among them
  contained : (rs : List R) (r : R) → IsAmong rs r → (x : X) → seen r ≡ x → Contains (map seen rs) x
  contained rs r among x is =
      let i : ℕ = among.0 in (
        i,
        subst (λ n. i < n) (sym (length-map rs seen)) among.1.0,
        get_or-map seen rs i r x among.1.0 ∙ ap seen (sym among.1.1) ∙ is,
      )

  module _ {K : Type 0} (cmp : K → K → Ordering) (es : List (K × R)) (k : K) (v : R) where
    abbrev WasOrIs : X → Type 0
    WasOrIs x = Contains (map seen (values_of es)) x ⊎ (x ≡ seen v)

    old : All (λ r. WasOrIs (seen r)) (values_of es)
    old i d less = inl (
      i,
      subst (λ n. i < n) (sym (length-map (values_of es) seen)) less,
      get_or-map seen (values_of es) i d (seen (get_or (values_of es) i d)) less,
    )

    -- an insertion adds what is inserted
    pub was_or_is : (x : X) → Contains (map seen (values_of (insert_entry cmp es k v))) x → Contains (map seen (values_of es)) x ⊎ (x ≡ seen v)
    was_or_is x has =
        let ws : List R = values_of (insert_entry cmp es k v) in
        let i : ℕ = has.0 in
        let less : i < length ws = subst (λ n. i < n) (length-map ws seen) has.1 in
        let is : seen (get_or ws i v) ≡ x = sym (get_or-map seen ws i v x less) ∙ has.2 in
        subst WasOrIs is (All-values-insert_entry cmp k v (λ r. WasOrIs (seen r)) es old (inr refl) i v less)

-- the root that was found is one of those that were sought
pub is_known : (rs : List Root) (root : Root) → IsAmong rs root → (asked : ReadAs) (bytes : List ℕ) → Covers root.read_as asked → root.bytes ≡ bytes → IsKnown (map seen_root rs) asked bytes
is_known rs root among asked bytes covers same =
    record { kind = root.read_as; has = contained seen_root rs root among (root.read_as, bytes) (ap (λ (b : List ℕ). (root.read_as, b)) same); covers = covers }

-- and the node
pub is_known_node : (ss : List Spot) (spot : Spot) → IsAmong ss spot → (asked : ReadAs) (id way : List ℕ) → Covers spot.read_as asked → IsSpot spot id way → IsKnownNode (map seen_spot ss) asked id way
is_known_node ss spot among asked id way covers here = record {
  kind = spot.read_as;
  has = contained seen_spot ss spot among (spot.read_as, id, way) (ap₂ (λ (i w : List ℕ). (spot.read_as, i, w)) here.id_is here.way_is);
  covers = covers;
}
