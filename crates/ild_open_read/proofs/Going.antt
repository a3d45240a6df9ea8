-- Reading entries one after another, whatever they stand in and whatever is asked of each.
use Rattle.std.proofs.Common.{◌≡◌, ℕ, List, [], ◌∷◌, ◌++◌, length, length-append, Bool, true, refl, sym, ◌∙◌, ap, subst, append_assoc, append-nil, arith}
use Rattle.std.specs.Prelude.{Ok, Err}
use Rattle.std.specs.List.{AllByRecursion}
use Rattle.ild_data.proofs.AllOf.{all_append}
use Rattle.ild_data.specs.Data.{Data}
use Rattle.ild_edges.specs.Store.{Moment}
use Rattle.ild_schema.specs.Value as V
use Rattle.ild_schema.specs.Value.{Value, Pairs, pairs_list, pairs_of}
use Rattle.ild_schema.specs.ValueSeen.{value_of}
use Rattle.ild_schema.specs.declared.number.Slot.{Slot}
use Rattle.ild_schema.specs.declared.row.Row.{Row}
use Rattle.ild_schema.specs.declared.val.Val.{Val}
use Rattle.ild_open_held.specs.Splits.{entry_parts, entry_values}
use Rattle.ild_open_parts.specs.Reads.{HasRead, Reads, ReadsParts}
use Rattle.ild_open_parts.specs.declared.fault.OpenFault.{OpenFault}
use Rattle.ild_open_parts.specs.declared.fault.OpenFault.TheVariants as F
use Rattle.ild_open_parts.proofs.Turning.{part_stops, parts_done, parts_memory, read_more, read_none}

pub parts_more : (u : Slot) (ds es : List (List ℕ × Data)) → entry_parts u (ds ++ es) ≡ entry_parts u ds ++ entry_parts u es
parts_more u [] es = refl
parts_more u (d ∷ ds) es = ap (λ ps. (u, d.1) ∷ ps) (parts_more u ds es)

pairs_back : (ps : Pairs) → pairs_of (pairs_list ps) ≡ ps
pairs_back V.no_pairs = refl
pairs_back (V.pair k v ps) = ap (V.pair k v) (pairs_back ps)

values_more : (ds : List (List ℕ × Data)) (e : List ℕ × Data) (vs : List Value) (v : Value) → length vs ≡ length ds → entry_values (ds ++ e ∷ []) (vs ++ v ∷ []) ≡ entry_values ds vs ++ (e.0, v) ∷ []
values_more [] e [] v same = refl
values_more [] e (w ∷ vs) v same = absurd (omega (arith, same))
values_more (d ∷ ds) e [] v same = absurd (omega (arith, same))
values_more (d ∷ ds) e (w ∷ vs) v same = ap (λ ps. (d.0, w) ∷ ps) (values_more ds e vs v (omega (arith, same)))

abbrev pub make_map : List (List ℕ × Data) → List Value → Value
make_map es vs = V.map (pairs_of (entry_values es vs))

-- the entries that are kept
pub record Keeps (done : List (List ℕ × Data)) (pairs : Pairs) (vs : List Value) : Type 0 where
  pub many : length vs ≡ length done
  pub are : pairs_list pairs ≡ entry_values done vs

keeps_more : (done : List (List ℕ × Data)) (e : List ℕ × Data) (k : List ℕ) (pairs more : Pairs) (vs : List Value) (v : Value) → k ≡ e.0 → pairs_list more ≡ pairs_list pairs ++ (k, v) ∷ [] → Keeps done pairs vs
    → Keeps (done ++ e ∷ []) more (vs ++ v ∷ [])
keeps_more done e k pairs more vs v same added x = record {
  many = let a = length-append vs (v ∷ []) in let b = length-append done (e ∷ []) in let c = x.many in omega (arith, a, b, c);
  are = added ∙ ap (λ ps. ps ++ (k, v) ∷ []) x.are ∙ ap (λ q. entry_values done vs ++ (q, v) ∷ []) same ∙ sym (values_more done e vs v x.many);
}

whole_parts : (u : Slot) (es done others : List (List ℕ × Data)) (e : List ℕ × Data) → es ≡ done ++ e ∷ others → entry_parts u es ≡ entry_parts u done ++ (u, e.1) ∷ entry_parts u others
whole_parts u es done others e is = ap (entry_parts u) is ∙ parts_more u done (e ∷ others)

module _ (P : List ℕ × Data → Type 0) (h : List ℕ → List ℕ) (rows : List Row) (room : ℕ) (keep : Bool) (u : Slot) where
  -- all entries, those that are left, and what is kept of the others
  pub record Going (es rest : List (List ℕ × Data)) (pairs : Pairs) (m n : Moment) : Type 0 where
    pub done : List (List ℕ × Data)
    pub is : es ≡ done ++ rest
    pub meet : AllByRecursion P done
    pub read : HasRead h rows room (entry_parts u done) keep (Keeps done pairs) m n

  pub going_begins : (es : List (List ℕ × Data)) (m : Moment) → Going es es V.no_pairs m m
  going_begins es m = record { done = []; is = refl; meet = tt; read = read_none h rows room keep (Keeps [] V.no_pairs) m (record { many = refl; are = refl }) }

  pub going_met : (es : List (List ℕ × Data)) (pairs : Pairs) (m n : Moment) → Going es [] pairs m n → AllByRecursion P es
  going_met es pairs m n x = subst (AllByRecursion P) (sym (x.is ∙ append-nil x.done)) x.meet

module _ (P : List ℕ × Data → Type 0) (h : List ℕ → List ℕ) (at : List ℕ) (rows : List Row) (room : ℕ) (keep : Bool) (u : Slot) where
  module _ (es others : List (List ℕ × Data)) (e : List ℕ × Data) (pairs : Pairs) (m n : Moment) (x : Going P h rows room keep u es (e ∷ others) pairs m n) (o : Moment) where
    pub going_goes : (k : List ℕ) (val : Val) (more : Pairs) → k ≡ e.0 → P e → Reads h at rows room (u, e.1) keep n (Ok val) o → (keep ≡ true → pairs_list more ≡ pairs_list pairs ++ (k, value_of val) ∷ [])
        → Going P h rows room keep u es others more m o
    going_goes k val more same meets read added = record {
      done = x.done ++ e ∷ [];
      is = x.is ∙ sym (append_assoc x.done (e ∷ []) others);
      meet = all_append P x.done (e ∷ []) x.meet (meets, tt);
      read = subst (λ ps. HasRead h rows room ps keep (Keeps (x.done ++ e ∷ []) more) m o) (sym (parts_more u x.done (e ∷ [])))
          (read_more h at rows room keep (entry_parts u x.done) (u, e.1) (Keeps x.done pairs) (Keeps (x.done ++ e ∷ []) more) m n o val x.read read
          (λ vs kept k'. keeps_more x.done e k pairs more vs (value_of val) same (added kept) k'));
    }

    pub going_stops : (fault : OpenFault) → Reads h at rows room (u, e.1) keep n (Err fault) o → ReadsParts h at rows room (entry_parts u es) keep (make_map es) m (Err fault) o
    going_stops fault read =
        subst (λ ps. ReadsParts h at rows room ps keep (make_map es) m (Err fault) o) (sym (whole_parts u es x.done others e x.is))
        (part_stops h at rows room keep (entry_parts u x.done) (entry_parts u others) (u, e.1) (Keeps x.done pairs) (make_map es) m n o fault x.read read)

    -- the entry was read, and there is no room for it
    pub going_wants : (val : Val) → Reads h at rows room (u, e.1) keep n (Ok val) o → ReadsParts h at rows room (entry_parts u es) keep (make_map es) m (Err F.Memory) o
    going_wants val read =
        let r = read_more h at rows room keep (entry_parts u x.done) (u, e.1) (Keeps x.done pairs) (λ vs. Unit {0}) m n o val x.read read (λ vs k g. tt) in
        subst (λ ps. ReadsParts h at rows room ps keep (make_map es) m (Err F.Memory) o)
        (append_assoc (entry_parts u x.done) ((u, e.1) ∷ []) (entry_parts u others) ∙ sym (whole_parts u es x.done others e x.is))
        (parts_memory h at rows room keep (entry_parts u x.done ++ (u, e.1) ∷ []) (entry_parts u others) (λ vs. Unit {0}) (make_map es) m o r)

  -- memory is wanting before the next entry
  pub going_full : (es rest : List (List ℕ × Data)) (pairs : Pairs) (m n : Moment) → Going P h rows room keep u es rest pairs m n → ReadsParts h at rows room (entry_parts u es) keep (make_map es) m (Err F.Memory) n
  going_full es rest pairs m n x =
      subst (λ ps. ReadsParts h at rows room ps keep (make_map es) m (Err F.Memory) n) (sym (ap (entry_parts u) x.is ∙ parts_more u x.done rest))
      (parts_memory h at rows room keep (entry_parts u x.done) (entry_parts u rest) (Keeps x.done pairs) (make_map es) m n x.read)

  pub going_ends : (es : List (List ℕ × Data)) (pairs : Pairs) (m n : Moment) (val : Val) → value_of val ≡ V.map pairs → Going P h rows room keep u es [] pairs m n → ReadsParts h at rows room (entry_parts u es) keep (make_map es) m (Ok val) n
  going_ends es pairs m n val made x =
      subst (λ fs. ReadsParts h at rows room (entry_parts u fs) keep (make_map fs) m (Ok val) n) (sym (x.is ∙ append-nil x.done))
      (parts_done h at rows room keep (entry_parts u x.done) (Keeps x.done pairs) (make_map x.done) m n val x.read (λ vs k e. made ∙ ap V.map (sym (pairs_back pairs) ∙ ap pairs_of e.are)))
