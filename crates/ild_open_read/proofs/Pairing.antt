-- Reading the entries that are left of a map, one after another, whatever they stand in.
use Rattle.std.proofs.Common.{◌≡◌, ℕ, List, [], ◌∷◌, ◌++◌, Bool, true, Option, Some, None, refl, subst}
use Rattle.std.specs.Prelude.{Ok, Err}
use Rattle.std.specs.Borrow.{Bor}
use Rattle.std.specs.List.{AllByRecursion}
use Rattle.ild_cbor.specs.declared.piece.Piece.{Piece}
use Rattle.ild_data.specs.Data.{Data}
use Rattle.ild_edges.specs.Store.{Moment}
use Rattle.ild_view_entries.specs.Left.{AreLeft, FirstStep}
use Rattle.ild_view_entries.specs.declared.left.EntriesLeft.{EntriesLeft}
use Rattle.ild_layer_piece.specs.Pieces.{StandsFor}
use Rattle.ild_schema.specs.Value as V
use Rattle.ild_schema.specs.Value.{Value, Pairs, pairs_list}
use Rattle.ild_schema.specs.ValueSeen.{value_of}
use Rattle.ild_schema.specs.declared.number.Slot.{Slot}
use Rattle.ild_schema.specs.declared.row.Row.{Row}
use Rattle.ild_schema.specs.declared.val.Val.{Val}
use Rattle.ild_open_held.specs.Splits.{HasFront, entry_parts}
use Rattle.ild_open_parts.specs.Checked.{IsChecked}
use Rattle.ild_open_parts.specs.Reads.{Reads, ReadsParts}
use Rattle.ild_open_parts.specs.declared.fault.OpenFault.{OpenFault}
use Rattle.ild_open_parts.specs.declared.fault.OpenFault.TheVariants as F
use Rattle.ild_open_read.proofs.Going.{Going, going_begins, going_ends, going_goes, going_stops, going_wants, make_map}

module _ (h : List ℕ → List ℕ) (at : List ℕ) (rows : List Row) (room : ℕ) (keep : Bool) (u : Slot) where
  -- nothing is asked of an entry
  abbrev Any : List ℕ × Data → Type 0
  Any e = Unit {0}

  -- all entries, those that are left, which have fronts, and what is kept of the others
  record Entering (es rest : List (List ℕ × Data)) (pairs : Pairs) (m n : Moment) : Type 0 where
    fronts : AllByRecursion (HasFront rows room) (entry_parts u rest)
    going : Going Any h rows room keep u es rest pairs m n

  entering_begins : (es : List (List ℕ × Data)) (m : Moment) → AllByRecursion (HasFront rows room) (entry_parts u es) → Entering es es V.no_pairs m m
  entering_begins es m fronts = record { fronts = fronts; going = going_begins Any h rows room keep u es m }

  abbrev Make : List (List ℕ × Data) → List Value → Value
  Make es vs = make_map es vs

  module _ (es others : List (List ℕ × Data)) (e : List ℕ × Data) (pairs : Pairs) (m n : Moment) (x : Entering es (e ∷ others) pairs m n) (o : Moment) where
    entering_goes : (k : List ℕ) (val : Val) (more : Pairs) → k ≡ e.0 → (HasFront rows room (u, e.1) → Reads h at rows room (u, e.1) keep n (Ok val) o)
        → (keep ≡ true → pairs_list more ≡ pairs_list pairs ++ (k, value_of val) ∷ []) → Entering es others more m o
    entering_goes k val more same read added = record { fronts = x.fronts.1; going = going_goes Any h at rows room keep u es others e pairs m n x.going o k val more same tt (read x.fronts.0) added }

    entering_stops : (fault : OpenFault) → (HasFront rows room (u, e.1) → Reads h at rows room (u, e.1) keep n (Err fault) o) → ReadsParts h at rows room (entry_parts u es) keep (Make es) m (Err fault) o
    entering_stops fault read = going_stops Any h at rows room keep u es others e pairs m n x.going o fault (read x.fronts.0)

    -- the entry was read, and there is no room for it
    entering_wants : (val : Val) → (HasFront rows room (u, e.1) → Reads h at rows room (u, e.1) keep n (Ok val) o) → ReadsParts h at rows room (entry_parts u es) keep (Make es) m (Err F.Memory) o
    entering_wants val read = going_wants Any h at rows room keep u es others e pairs m n x.going o val (read x.fronts.0)

  entering_ends : (es : List (List ℕ × Data)) (pairs : Pairs) (m n : Moment) (val : Val) → value_of val ≡ V.map pairs → Entering es [] pairs m n → ReadsParts h at rows room (entry_parts u es) keep (Make es) m (Ok val) n
  entering_ends es pairs m n val made x = going_ends Any h at rows room keep u es pairs m n val made x.going

  -- ---- with what is left of them

  pub record Pairing (es : List (List ℕ × Data)) (left : EntriesLeft) (pairs : Pairs) (m n : Moment) : Type 0 where
    rest : List (List ℕ × Data)
    entries : AreLeft left rest
    entering : Entering es rest pairs m n

  pub pairing_begins : (es : List (List ℕ × Data)) (left : EntriesLeft) (m : Moment) → AllByRecursion (HasFront rows room) (entry_parts u es) → AreLeft left es → Pairing es left V.no_pairs m m
  pairing_begins es left m fronts entries = record { rest = es; entries = entries; entering = entering_begins es m fronts }

  abbrev Give : EntriesLeft → Option (Bor (List ℕ) × Piece × EntriesLeft) → Type 0
  Give left r = (es : List (List ℕ × Data)) → AreLeft left es → FirstStep es r

  record NextEntry (rest : List (List ℕ × Data)) (x : Bor (List ℕ) × Piece × EntriesLeft) : Type 0 where
    first : List ℕ × Data
    others : List (List ℕ × Data)
    is : rest ≡ first ∷ others
    key : x.0.now ≡ first.0
    stands : StandsFor rows x.1 first.1
    left : AreLeft x.2 others

  next_entry : (rest : List (List ℕ × Data)) (left : EntriesLeft) (x : Bor (List ℕ) × Piece × EntriesLeft) → Give left (Some x) → AreLeft left rest → NextEntry rest x
  next_entry [] left x give has = absurd (give [] has)
  next_entry (d ∷ ds) left x give has = let y = give (d ∷ ds) has in record { first = d; others = ds; is = refl; key = y.key; stands = y.stands rows; left = y.left }

  -- the entry that is next has a front
  pub pairing_front : (es : List (List ℕ × Data)) (left : EntriesLeft) (pairs : Pairs) (m n : Moment) (x : Bor (List ℕ) × Piece × EntriesLeft) → Pairing es left pairs m n → Give left (Some x) → IsChecked rows room u x.1
  pairing_front es left pairs m n x before give =
      let y = next_entry before.rest left x give before.entries in
      let fronts = subst (λ r. AllByRecursion (HasFront rows room) (entry_parts u r)) y.is before.entering.fronts in
      record { tree = y.first.1; stands = y.stands; front = fronts.0 }

  none_left : (rest : List (List ℕ × Data)) (left : EntriesLeft) → Give left None → AreLeft left rest → rest ≡ []
  none_left [] left give has = refl
  none_left (d ∷ ds) left give has = absurd (give (d ∷ ds) has)

  module _ (es : List (List ℕ × Data)) (left : EntriesLeft) (pairs : Pairs) (m n o : Moment) (x : Bor (List ℕ) × Piece × EntriesLeft) (before : Pairing es left pairs m n) (give : Give left (Some x)) where
    next : NextEntry before.rest x
    next = next_entry before.rest left x give before.entries

    entered : Entering es (next.first ∷ next.others) pairs m n
    entered = subst (λ r. Entering es r pairs m n) next.is before.entering

    pub pairing_goes : (val : Val) (more : Pairs) → ((d : Data) → StandsFor rows x.1 d → HasFront rows room (u, d) → Reads h at rows room (u, d) keep n (Ok val) o)
        → (keep ≡ true → pairs_list more ≡ pairs_list pairs ++ (x.0.now, value_of val) ∷ []) → Pairing es x.2 more m o
    pairing_goes val more read added = record {
      rest = next.others;
      entries = next.left;
      entering = entering_goes es next.others next.first pairs m n entered o x.0.now val more next.key (read next.first.1 next.stands) added;
    }

    pub pairing_stops : (e : OpenFault) → ((d : Data) → StandsFor rows x.1 d → HasFront rows room (u, d) → Reads h at rows room (u, d) keep n (Err e) o) → ReadsParts h at rows room (entry_parts u es) keep (Make es) m (Err e) o
    pairing_stops e read = entering_stops es next.others next.first pairs m n entered o e (read next.first.1 next.stands)

    -- the entry was read, and there is no room for it
    pub pairing_wants : (val : Val) → ((d : Data) → StandsFor rows x.1 d → HasFront rows room (u, d) → Reads h at rows room (u, d) keep n (Ok val) o) → ReadsParts h at rows room (entry_parts u es) keep (Make es) m (Err F.Memory) o
    pairing_wants val read = entering_wants es next.others next.first pairs m n entered o val (read next.first.1 next.stands)

  pub pairing_ends : (es : List (List ℕ × Data)) (left : EntriesLeft) (pairs : Pairs) (m n : Moment) (val : Val) → value_of val ≡ V.map pairs → Pairing es left pairs m n → Give left None → ReadsParts h at rows room (entry_parts u es) keep (Make es) m (Ok val) n
  pairing_ends es left pairs m n val made x give = entering_ends es pairs m n val made (subst (λ r. Entering es r pairs m n) (none_left x.rest left give x.entries) x.entering)
