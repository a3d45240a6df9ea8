-- The place of a refusal in that of the part that is refused.
use Rattle.std.proofs.Common.{◌≡◌, ℕ, Bool, true, false, List, [], ◌∷◌, ◌++◌, Some, refl, sym, ◌∙◌, ap, subst, inl, inr}
use Rattle.std.specs.List.{AllByRecursion}
use Rattle.std.proofs.lemmas.List.{append-nil}
use Rattle.ild_cbor.specs.declared.node.Node.{Node}
use Rattle.ild_cbor.specs.declared.piece.Piece.{Piece}
use Rattle.ild_cbor.specs.declared.piece.Piece.TheVariants as P
use Rattle.ild_data.specs.Data as T
use Rattle.ild_data.specs.Data.{Data}
use Rattle.ild_data.specs.Key.{put}
use Rattle.ild_typed.specs.Strings.{map_data}
use Rattle.ild_data.specs.Tree.{IsTree}
use Rattle.ild_layer_piece.specs.Pieces.{StandsFor}
use Rattle.ild_schema.specs.declared.def.TypeDef.{TypeDef}
use Rattle.ild_schema.specs.declared.def.TypeDef.TheVariants as D
use Rattle.ild_typed.specs.Refused.{AreParts}
use Rattle.ild_typed.specs.Spots.{Spot}
use Rattle.ild_typed.specs.WayLaws.{IsReached, Leads}
use Rattle.ild_typed.proofs.RefusalsReached.{parts_are_reached, refusals_are_reached}
use Rattle.ild_typed.proofs.WalkForms.{table_parts}
use Rattle.ild_typed.proofs.WaySteps.{bare_bytes, bare_text, itself}
use Rattle.ild_layer_places.specs.Ending.{Ends, EndsAt, IsOwn, IsPlain, has_inline}
use Rattle.ild_layer_places.specs.Places.{IsFree}
use Rattle.ild_layer_places.specs.Refusing.{IsInside, IsNoInline, RefusalsArePlaced, is_struct}
use Rattle.ild_layer_places.proofs.Composing.{part_placed}
use Rattle.ild_layer_places.proofs.Ending.{fields_end, parts_end}
use Rattle.ild_layer_places.proofs.Inlining.{parts_are_onto}

pub at_spot : (Q : Spot → Type 0) (done : List Spot) (p : Spot) (others : List Spot) → AllByRecursion Q (done ++ p ∷ others) → Q p
at_spot Q [] p others all = all.0
at_spot Q (d ∷ done) p others all = at_spot Q done p others all.1

own_free : (y : Piece) (m : Node) (t : Data) (p : Spot) → IsOwn t p → IsFree y (P.Node m) p.at t p.tree
own_free y m t p (inl plain) = inl plain
own_free y m t p (inr below) = inr (inl below)

-- of a piece that is no whole item
bare_free : (y : Piece) (m : Node) (t : Data) (p : Spot) (b : Bool) → IsPlain t → ((es : List (List ℕ × Data)) → map_data es ≡ t → ⊥) → EndsAt b t p → IsFree y (P.Node m) p.at t p.tree
bare_free y m t p b plain inside (inl own) = own_free y m t p own
bare_free y m t p b plain inside (inr (none, inl same)) = inl (subst IsPlain (sym same) plain)
bare_free y m t p b plain inside (inr (none, inr less)) = absurd (inside (put less.1.key (T.text less.1.name) less.1.entries) less.1.whole)

no_text : (es : List (List ℕ × Data)) (s : List ℕ) → map_data es ≡ T.text s → ⊥
no_text es s e = cc

no_bytes : (es : List (List ℕ × Data)) (s : List ℕ) → map_data es ≡ T.bytes s → ⊥
no_bytes es s e = cc

item_free : (n m : Node) (t : Data) (p : Spot) (b : Bool) → (p.at ≡ [] → b ≡ true → ⊥) → EndsAt b t p → IsFree (P.Node n) (P.Node m) p.at t p.tree
item_free n m t p b inside (inl own) = own_free (P.Node n) m t p own
item_free n m t p b inside (inr (none, inl same)) =
    let ends : Ends p.at t p.tree = subst (λ w. Ends w t p.tree) (sym none) (subst (λ d. Ends [] t d) (sym same) (0, refl)) in
    inr (inr (ends, (n, refl)))
item_free n m t p b inside (inr (none, inr less)) = absurd (inside none less.0)

pub refusals_are_placed : RefusalsArePlaced
refusals_are_placed rows schema y x s d t is stands tree passing done p others parts inner inside =
    let ps : List Spot = done ++ p ∷ others in
    let reached = at_spot (IsReached t) done p others (parts_are_reached rows schema s d is t ps tree parts) in
    let own_tree = at_spot (λ (q : Spot). IsTree q.tree) done p others (table_parts rows schema s d is t ps tree parts) in
    let here : Leads p.at t = subst (λ w. Leads w t) (append-nil p.at) (reached [] (itself p.tree)) in
    let set = parts_are_onto rows y x t p.tree p.at stands here (free x inside) in
    record {
      leads = set.leads;
      further = λ room q k j refused at_y at_x.
          part_placed rows y x t p.tree p.at q.at k j stands inner (refusals_are_reached rows schema room p.slot p.tree q own_tree refused) at_y set.onto at_x;
    }
  where
    ends : EndsAt (has_inline d) t p
    ends = at_spot (EndsAt (has_inline d) t) done p others (parts_end rows schema s d is t (done ++ p ∷ others) tree parts)

    of_fields : (n : Node) (u : ℕ) → y ≡ P.Inline n u → IsOwn t p
    of_fields n u same =
        let st = passing n u same in
        at_spot (IsOwn t) done p others
        (fields_end rows schema s st.0 (is ∙ ap Some st.1) t (done ++ p ∷ others) tree (subst (λ e. AreParts e t (done ++ p ∷ others)) st.1 parts))

    plainly_free : (m : Node) (z : Piece) → y ≡ z → StandsFor rows z t → is_struct d ≡ false → IsNoInline z d p → IsFree z (P.Node m) p.at t p.tree
    plainly_free m (P.Node n) same there e i = item_free n m t p (has_inline d) (i e) ends
    plainly_free m (P.Inline n u) same there e i = own_free (P.Inline n u) m t p (of_fields n u same)
    plainly_free m (P.Text a) same there e i = bare_free (P.Text a) m t p (has_inline d) (subst IsPlain (sym there) (bare_text a.now)) (λ es k. no_text es a.now (k ∙ there)) ends
    plainly_free m (P.Bytes a) same there e i = bare_free (P.Bytes a) m t p (has_inline d) (subst IsPlain (sym there) (bare_bytes a.now)) (λ es k. no_bytes es a.now (k ∙ there)) ends

    of_struct : (e : TypeDef) → d ≡ e → is_struct e ≡ true → IsOwn t p
    of_struct (D.Struct st) same told =
        at_spot (IsOwn t) done p others
        (fields_end rows schema s st (is ∙ ap Some same) t (done ++ p ∷ others) tree (subst (λ e. AreParts e t (done ++ p ∷ others)) same parts))
    of_struct e same told = absurd cc

    node_free : (m : Node) → (b : Bool) → is_struct d ≡ b → IsInside y (P.Node m) d t p → IsFree y (P.Node m) p.at t p.tree
    node_free m true e i = own_free y m t p (of_struct d refl e)
    node_free m false e i = plainly_free m y refl stands e i

    free : (z : Piece) → IsInside y z d t p → IsFree y z p.at t p.tree
    free (P.Node m) i = node_free m (is_struct d) refl i
    free (P.Inline m u) i = i
    free (P.Text a) i = tt
    free (P.Bytes a) i = tt
