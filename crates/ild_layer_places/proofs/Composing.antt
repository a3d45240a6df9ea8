-- The place of a refused piece in that of the part in which it stands.
use Rattle.std.proofs.Common.{◌≡◌, ℕ, ◌+◌, ◌≤◌, List, [], ◌++◌, length, Some, sym, ◌∙◌, ap, subst, arith, inl, inr}
use Rattle.std.proofs.lemmas.List.{append-nil}
use Rattle.std.proofs.lemmas.Option.{same_Some}
use Rattle.ild_cbor.specs.Nodes.{HasData}
use Rattle.ild_cbor.specs.declared.node.Node.{Node}
use Rattle.ild_cbor.specs.declared.piece.Piece.{Piece}
use Rattle.ild_cbor.specs.declared.piece.Piece.TheVariants as P
use Rattle.ild_cbor.proofs.Blocks.{one_tree_lem}
use Rattle.ild_data.specs.Data as T
use Rattle.ild_data.specs.Data.{Data}
use Rattle.ild_data.specs.Limits.{IsWithin, longest_block}
use Rattle.ild_data.specs.Spell.{spell}
use Rattle.ild_layer_piece.specs.Pieces.{StandsFor}
use Rattle.ild_schema.specs.declared.row.Row.{Row}
use Rattle.ild_typed.specs.Spots.{Step}
use Rattle.ild_typed.specs.WayLaws.{Leads}
use Rattle.ild_typed.proofs.Leading.{ways_lead}
use Rattle.ild_typed.proofs.WaySteps.{no_way}
use Rattle.ild_layer_places.specs.Ending.{Ends}
use Rattle.ild_layer_places.specs.Places.{BeginsAt, EndsIn, IsOnto, PlacedAt}
use Rattle.ild_layer_places.proofs.Placing.{found_join, length_both}

begins_there : (w : Data) (k : ℕ) → BeginsAt [] w k → k ≡ 0
begins_there w k (d, e) = sym (ap (λ (q : ℕ × Data). q.0) (same_Some (0, w) (k, d) e))

joined : (t d : Data) (at way : List Step) (k j : ℕ) → Ends at t d → BeginsAt at t k → BeginsAt way d j → BeginsAt (at ++ way) t (k + j)
joined t d at way k j (o, ends) (c, begins) (e, more) =
    let same : o ≡ k = ap (λ (q : ℕ × Data). q.0) (same_Some (o, d) (k, c) (sym ends ∙ begins)) in
    (e, found_join at way t d o j e ends more ∙ ap (λ n. Some (n + j, e)) same)

-- nothing is added
stays : (y : Piece) (at way : List Step) (k j : ℕ) → way ≡ [] → j ≡ 0 → PlacedAt y at k → PlacedAt y (at ++ way) (k + j)
stays y at way k j none zero_more h =
    let same : k ≡ k + j = omega (arith, zero_more) in
    subst (PlacedAt y (at ++ way)) same (subst (λ w. PlacedAt y w k) (sym (ap (λ w. at ++ w) none ∙ append-nil at)) h)

pub one_tree : (n : Node) (d e : Data) → HasData n d → HasData n e → d ≡ e
one_tree n d e p q = one_tree_lem _ _ _ _ d e p q

module _ (rows : List Row) (y x : Piece) (t d : Data) (at way : List Step) (k j : ℕ) (outer : StandsFor rows y t) (inner : StandsFor rows x d) (leads : Leads way d) (here : PlacedAt y at k) where
  item_joined : (m : Node) → HasData m d → EndsIn y at d → PlacedAt (P.Node m) way j → PlacedAt y (at ++ way) (k + j)
  item_joined m stands ends own = by y ends here where
    by : (z : Piece) → EndsIn z at d → PlacedAt z at k → PlacedAt z (at ++ way) (k + j)
    by (P.Node n) each place = λ w there. joined w d at way k j (each w there) (place w there) (own d stands)
    by (P.Inline n u) each place = λ w there. joined w d at way k j (each w there) (place w there) (own d stands)
    by (P.Text s) each place = absurd each
    by (P.Bytes s) each place = absurd each

  pub part_placed : IsOnto y at x d → PlacedAt x way j → PlacedAt y (at ++ way) (k + j)
  part_placed onto own = by x inner onto own where
    by : (z : Piece) → StandsFor rows z d → IsOnto y at z d → PlacedAt z way j → PlacedAt y (at ++ way) (k + j)
    by (P.Text s) stands f h = stays y at way k j h.0 h.1 here
    by (P.Bytes s) stands f h = stays y at way k j h.0 h.1 here
    by (P.Node m) stands (inl plain) h =
        let none = no_way way d plain leads in
        let first : BeginsAt [] d j = subst (λ w. BeginsAt w d j) none (h d stands) in
        stays y at way k j none (begins_there d j first) here
    by (P.Node m) stands (inr ends) h = item_joined m stands ends h
    by (P.Inline m u) stands f h =
        subst (λ w. PlacedAt y (w ++ way) (k + j)) (sym f.0) (same_item y f.1 (subst (λ w. PlacedAt y w k) f.0 here))
      where
        same_item : (z : Piece) → z ≡ P.Node m → PlacedAt z [] k → PlacedAt z way (k + j)
        same_item z is place = subst (λ q. PlacedAt q way (k + j)) (sym is) (λ w there.
            let none = begins_there w k (subst (λ q. PlacedAt q [] k) is place w there) in
            let same : j ≡ k + j = omega (arith, none) in
            subst (BeginsAt way w) same (h w there))

-- an offset in a spelling is short
pub begins_within : (way : List Step) (w : Data) (n : ℕ) → IsWithin w → BeginsAt way w n → n ≤ longest_block
begins_within way w n within (d, e) =
    let s = ways_lead way w (n, d) e in
    let long : length (spell w) ≡ length s.front + length (spell d ++ s.back) = ap length s.is ∙ length_both s.front (spell d ++ s.back) in
    let place = s.place in
    let sized = within.sized in
    omega (arith, long, place, sized)

pub placed_short : (rows : List Row) (y : Piece) (t : Data) (way : List Step) (n : ℕ) → StandsFor rows y t → PlacedAt y way n → n ≤ longest_block
placed_short rows (P.Node m) t way n stands place = begins_within way t n stands.within (place t stands)
placed_short rows (P.Inline m u) t way n stands place = begins_within way (T.map stands.entries) n stands.stands.within (place (T.map stands.entries) stands.stands)
placed_short rows (P.Text s) t way n stands place = let none = place.1 in omega (arith, none)
placed_short rows (P.Bytes s) t way n stands place = let none = place.1 in omega (arith, none)
