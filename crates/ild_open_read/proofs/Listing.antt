-- Reading the elements of a list, one after another.
use Rattle.std.proofs.Common.{◌≡◌, ℕ, List, [], ◌∷◌, ◌++◌, Bool, true, Option, Some, None, refl, sym, ◌∙◌, ap, subst, append_assoc, append-nil}
use Rattle.std.specs.Prelude.{Ok, Err}
use Rattle.std.specs.List.{AllByRecursion}
use Rattle.ild_cbor.specs.Nodes.{HasData}
use Rattle.ild_cbor.specs.Steps.{HasItems, ItemStep}
use Rattle.ild_cbor.specs.declared.items.Items.{Items}
use Rattle.ild_cbor.specs.declared.node.Node.{Node}
use Rattle.ild_cbor.specs.declared.piece.Piece.TheVariants as P
use Rattle.ild_data.specs.Data as T
use Rattle.ild_data.specs.Data.{Data}
use Rattle.ild_data.proofs.Lists.{items_list-items_of}
use Rattle.ild_edges.specs.Store.{Moment}
use Rattle.ild_layer_piece.specs.Entries.{Lists}
use Rattle.ild_schema.specs.Value as V
use Rattle.ild_schema.specs.Value.{Value, Values, values_list, values_of}
use Rattle.ild_schema.specs.ValueSeen.{value_of}
use Rattle.ild_schema.specs.declared.number.Slot.{Slot}
use Rattle.ild_schema.specs.declared.row.Row.{Row}
use Rattle.ild_schema.specs.declared.val.Val.{Val}
use Rattle.ild_typed.specs.Named.{items_in}
use Rattle.ild_open_held.specs.Splits.{HasFront, element_parts}
use Rattle.ild_open_parts.specs.Checked.{IsChecked}
use Rattle.ild_open_parts.specs.Reads.{HasRead, Reads, ReadsParts}
use Rattle.ild_open_parts.specs.declared.fault.OpenFault.{OpenFault}
use Rattle.ild_open_parts.specs.declared.fault.OpenFault.TheVariants as F
use Rattle.ild_open_parts.proofs.Turning.{part_stops, parts_done, parts_memory, read_more, read_none}

-- ---- the loop

parts_more : (u : Slot) (ds es : List Data) → element_parts u (ds ++ es) ≡ element_parts u ds ++ element_parts u es
parts_more u [] es = refl
parts_more u (d ∷ ds) es = ap (λ ps. (u, d) ∷ ps) (parts_more u ds es)

values_back : (vs : Values) → values_of (values_list vs) ≡ vs
values_back V.no_values = refl
values_back (V.value v vs) = ap (V.value v) (values_back vs)

pub items_there : (ds : List Data) (s : Items) → Lists (items_in (T.list (T.items_of ds))) (Some s) → HasItems s (T.items_of ds)
items_there ds s has = subst (λ es. HasItems s (T.items_of es)) (items_list-items_of ds) has

module _ (h : List ℕ → List ℕ) (at : List ℕ) (rows : List Row) (room : ℕ) (keep : Bool) (u : Slot) where
  abbrev Keeps : Values → List Value → Type 0
  Keeps vals vs = values_list vals ≡ vs

  pub record Listing (ds : List Data) (left : Items) (vals : Values) (m n : Moment) : Type 0 where
    pub done : List Data
    pub rest : List Data
    pub is : ds ≡ done ++ rest
    pub items : HasItems left (T.items_of rest)
    pub fronts : AllByRecursion (HasFront rows room) (element_parts u rest)
    pub read : HasRead h rows room (element_parts u done) keep (Keeps vals) m n

  pub listing_begins : (ds : List Data) (left : Items) (m : Moment) → AllByRecursion (HasFront rows room) (element_parts u ds) → HasItems left (T.items_of ds) → Listing ds left V.no_values m m
  listing_begins ds left m fronts items = record { done = []; rest = ds; is = refl; items = items; fronts = fronts; read = read_none h rows room keep (Keeps V.no_values) m refl }

  abbrev Give : Items → Option Node → Items → Type 0
  Give left r after = (is : T.Items) → HasItems left is → ItemStep left is r after

  abbrev Make : List Value → Value
  Make vs = V.list (values_of vs)

  -- the element that is next
  pub record NextItem (rest : List Data) (item : Node) (after : Items) : Type 0 where
    pub first : Data
    pub others : List Data
    pub is : rest ≡ first ∷ others
    pub stands : HasData item first
    pub left : HasItems after (T.items_of others)

  next_item : (rest : List Data) (left after : Items) (item : Node) → Give left (Some item) after → HasItems left (T.items_of rest) → NextItem rest item after
  next_item [] left after item give has = absurd (give T.no_items has)
  next_item (d ∷ ds) left after item give has =
      let x = give (T.item d (T.items_of ds)) has in
      record { first = d; others = ds; is = refl; stands = x.stands; left = x.left }

  -- it has a front
  pub listing_front : (ds : List Data) (left after : Items) (vals : Values) (m n : Moment) (item : Node) → Listing ds left vals m n → Give left (Some item) after → IsChecked rows room u (P.Node item)
  listing_front ds left after vals m n item x give =
      let y = next_item x.rest left after item give x.items in
      let fronts = subst (λ r. AllByRecursion (HasFront rows room) (element_parts u r)) y.is x.fronts in
      record { tree = y.first; stands = y.stands; front = fronts.0 }

  none_left : (rest : List Data) (left after : Items) → Give left None after → HasItems left (T.items_of rest) → rest ≡ []
  none_left [] left after give has = refl
  none_left (d ∷ ds) left after give has = absurd (give (T.item d (T.items_of ds)) has)

  step_parts : (done others : List Data) (d : Data) → element_parts u (done ++ d ∷ others) ≡ element_parts u done ++ (u, d) ∷ element_parts u others
  step_parts done others d = parts_more u done (d ∷ others)

  pub listing_goes : (ds : List Data) (left after : Items) (vals more : Values) (m n o : Moment) (item : Node) (val : Val) → Listing ds left vals m n → Give left (Some item) after
      → ((d : Data) → HasData item d → HasFront rows room (u, d) → Reads h at rows room (u, d) keep n (Ok val) o) → (keep ≡ true → values_list more ≡ values_list vals ++ value_of val ∷ []) → Listing ds after more m o
  listing_goes ds left after vals more m n o item val x give read added =
      let y = next_item x.rest left after item give x.items in
      let fronts = subst (λ r. AllByRecursion (HasFront rows room) (element_parts u r)) y.is x.fronts in
      record {
        done = x.done ++ y.first ∷ [];
        rest = y.others;
        is = x.is ∙ ap (λ r. x.done ++ r) y.is ∙ sym (append_assoc x.done (y.first ∷ []) y.others);
        items = y.left;
        fronts = fronts.1;
        read = subst (λ ps. HasRead h rows room ps keep (Keeps more) m o) (sym (parts_more u x.done (y.first ∷ [])))
            (read_more h at rows room keep (element_parts u x.done) (u, y.first) (Keeps vals) (Keeps more) m n o val x.read (read y.first y.stands fronts.0) (λ vs k e. added k ∙ ap (λ ws. ws ++ value_of val ∷ []) e));
      }

  pub listing_stops : (ds : List Data) (left after : Items) (vals : Values) (m n o : Moment) (item : Node) (e : OpenFault) → Listing ds left vals m n → Give left (Some item) after
      → ((d : Data) → HasData item d → HasFront rows room (u, d) → Reads h at rows room (u, d) keep n (Err e) o) → ReadsParts h at rows room (element_parts u ds) keep Make m (Err e) o
  listing_stops ds left after vals m n o item e x give read =
      let y = next_item x.rest left after item give x.items in
      let fronts = subst (λ r. AllByRecursion (HasFront rows room) (element_parts u r)) y.is x.fronts in
      subst (λ ps. ReadsParts h at rows room ps keep Make m (Err e) o) (sym (ap (element_parts u) (x.is ∙ ap (λ r. x.done ++ r) y.is) ∙ step_parts x.done y.others y.first))
      (part_stops h at rows room keep (element_parts u x.done) (element_parts u y.others) (u, y.first) (Keeps vals) Make m n o e x.read (read y.first y.stands fronts.0))

  -- memory is wanting behind the element
  pub listing_full : (ds : List Data) (left : Items) (vals : Values) (m n : Moment) → Listing ds left vals m n → ReadsParts h at rows room (element_parts u ds) keep Make m (Err F.Memory) n
  listing_full ds left vals m n x =
      subst (λ ps. ReadsParts h at rows room ps keep Make m (Err F.Memory) n) (sym (ap (element_parts u) x.is ∙ parts_more u x.done x.rest))
      (parts_memory h at rows room keep (element_parts u x.done) (element_parts u x.rest) (Keeps vals) Make m n x.read)

  -- the element was read, and there is no room for it
  pub listing_wants : (ds : List Data) (left after : Items) (vals : Values) (m n o : Moment) (item : Node) (val : Val) → Listing ds left vals m n → Give left (Some item) after
      → ((d : Data) → HasData item d → HasFront rows room (u, d) → Reads h at rows room (u, d) keep n (Ok val) o) → ReadsParts h at rows room (element_parts u ds) keep Make m (Err F.Memory) o
  listing_wants ds left after vals m n o item val x give read =
      let y = next_item x.rest left after item give x.items in
      let fronts = subst (λ r. AllByRecursion (HasFront rows room) (element_parts u r)) y.is x.fronts in
      let r = read_more h at rows room keep (element_parts u x.done) (u, y.first) (Keeps vals) (λ vs. Unit {0}) m n o val x.read (read y.first y.stands fronts.0) (λ vs k e. tt) in
      subst (λ ps. ReadsParts h at rows room ps keep Make m (Err F.Memory) o)
      (append_assoc (element_parts u x.done) ((u, y.first) ∷ []) (element_parts u y.others) ∙ sym (ap (element_parts u) (x.is ∙ ap (λ q. x.done ++ q) y.is) ∙ step_parts x.done y.others y.first))
      (parts_memory h at rows room keep (element_parts u x.done ++ (u, y.first) ∷ []) (element_parts u y.others) (λ vs. Unit {0}) Make m o r)

  pub listing_ends : (ds : List Data) (left after : Items) (vals : Values) (m n : Moment) (val : Val) → value_of val ≡ V.list vals → Listing ds left vals m n → Give left None after → ReadsParts h at rows room (element_parts u ds) keep Make m (Ok val) n
  listing_ends ds left after vals m n val made x give =
      let none = none_left x.rest left after give x.items in
      subst (λ ps. ReadsParts h at rows room ps keep Make m (Ok val) n) (sym (ap (element_parts u) (x.is ∙ ap (λ r. x.done ++ r) none ∙ append-nil x.done)))
      (parts_done h at rows room keep (element_parts u x.done) (Keeps vals) Make m n val x.read (λ vs k e. made ∙ ap V.list (sym (values_back vals)) ∙ ap Make e))
