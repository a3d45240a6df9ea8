-- Parts that are read in turn: none, one more, one that stops, and the whole.
use Rattle.std.proofs.Common.{◌≡◌, ℕ, ◌+◌, Bool, true, List, [], ◌∷◌, ◌++◌, length, Option, refl, sym, ◌∙◌, ap, subst, arith}
use Rattle.std.specs.Prelude.{Result, Ok, Err, IfErr, IfOk}
use Rattle.ild_cbor.specs.declared.why.BlockWhy.{BlockWhy}
use Rattle.ild_data.specs.Data.{Data}
use Rattle.ild_edges.specs.Store.{Moment, block_at}
use Rattle.ild_edges.proofs.Reading.{from_both, from_later, from_more, from_nothing, reads_none, reads_then}
use Rattle.ild_schema.specs.Value.{Value, union}
use Rattle.ild_schema.specs.ValueSeen.{value_of}
use Rattle.ild_schema.specs.declared.number.Slot.{Slot}
use Rattle.ild_schema.specs.declared.row.Row.{Row}
use Rattle.ild_schema.specs.declared.val.Val.{Val}
use Rattle.ild_typed.specs.Blocks.{nodes}
use Rattle.ild_open_held.specs.Held.{IsHeld}
use Rattle.ild_open_held.specs.Splits.{PartsHaveValues, HasFront, Part, Splits, nodes_in, union_of}
use Rattle.ild_open_parts.specs.Leaf.{IsUnionWith}
use Rattle.ild_open_parts.specs.Reads.{BrokenPart, BrokenParts, HasRead, HasValue, HasValues, NoValue, NoValues, OnlyReads, PartsAnswer, ReadAnswer, Reads, ReadsParts, Stops}
use Rattle.ild_open_parts.specs.declared.fault.OpenFault.{OpenFault}
use Rattle.ild_open_parts.specs.declared.fault.OpenFault.TheVariants as F
use Rattle.ild_open_parts.proofs.Breaking.{AreParts, broken_earlier, rose_later, whole_broken}
use Rattle.ild_open_parts.proofs.Containing.{contains_middle}

pub only_refl : (m : Moment) → OnlyReads m m
only_refl m = reads_none m

pub only_trans : (m n o : Moment) → OnlyReads m n → OnlyReads n o → OnlyReads m o
only_trans m n o x y = reads_then m n o x y

-- a stop after a later moment
pub stops_later : (P Q : Type 0) (B C : List ℕ → BlockWhy → Type 0) (m n o : Moment) (e : OpenFault) → OnlyReads m n → (P → Q) → ((id : List ℕ) (why : BlockWhy) → B id why → C id why) → Stops P B n e o → Stops Q C m e o
stops_later P Q B C m n o (F.Block id why) only more broken x = (more x.0, broken id.0 why x.1)
stops_later P Q B C m n o F.Store only more broken x = rose_later m.faults n.faults o.faults only.later.faults x
stops_later P Q B C m n o F.Memory only more broken x = tt

module _ (h : List ℕ → List ℕ) (rows : List Row) (room : ℕ) where
  module _ (block : List ℕ → Option (List ℕ)) where
    abbrev Are : List Part → List Value → Type 0
    Are ps vs = PartsHaveValues block h rows room ps vs

    pub are_append : (ps : List Part) (vs : List Value) (p : Part) (v : Value) → Are ps vs → IsHeld block h rows room p.0 p.1 v → Are (ps ++ p ∷ []) (vs ++ v ∷ [])
    are_append [] [] p v all one = (one, tt)
    are_append [] (w ∷ vs) p v all one = absurd all
    are_append (q ∷ ps) [] p v all one = absurd all
    are_append (q ∷ ps) (w ∷ vs) p v all one = (all.0, are_append ps vs p v all.1 one)

    pub record AreSplit (ps qs : List Part) (vs : List Value) : Type 0 where
      pub left : List Value
      pub right : List Value
      pub is : vs ≡ left ++ right
      pub first : Are ps left
      pub rest : Are qs right
      pub many : nodes_in h rows (ps ++ qs) vs ≡ nodes_in h rows ps left + nodes_in h rows qs right

    pub are_split : (ps qs : List Part) (vs : List Value) → Are (ps ++ qs) vs → AreSplit ps qs vs
    are_split [] qs vs all = record { left = []; right = vs; is = refl; first = tt; rest = all; many = omega arith }
    are_split (p ∷ ps) qs [] all = absurd all
    are_split (p ∷ ps) qs (v ∷ vs) all =
        let r = are_split ps qs vs all.1 in
        record {
          left = v ∷ r.left;
          right = r.right;
          is = ap (λ xs. v ∷ xs) r.is;
          first = (all.0, r.first);
          rest = r.rest;
          many = let e = r.many in omega (arith, e);
        }

    pub record HasFirst (p : Part) (qs : List Part) (vs : List Value) : Type 0 where
      pub value : Value
      pub others : List Value
      pub held : IsHeld block h rows room p.0 p.1 value
      pub rest : Are qs others
      pub many : nodes_in h rows (p ∷ qs) vs ≡ length (nodes h rows p.0 value) + nodes_in h rows qs others

    pub has_first : (p : Part) (qs : List Part) (vs : List Value) → Are (p ∷ qs) vs → HasFirst p qs vs
    has_first p qs [] all = absurd all
    has_first p qs (v ∷ vs) all = record { value = v; others = vs; held = all.0; rest = all.1; many = refl }

  module _ (keep : Bool) where
    pub read_none : (Kept : List Value → Type 0) (m : Moment) → Kept [] → HasRead h rows room [] keep Kept m m
    read_none Kept m kept = record {
      found = from_nothing m (λ held. HasValues h rows room [] keep held Kept) (λ held. record { values = []; are = tt; kept = λ k. kept });
      only = reads_none m;
      gets = λ held vs told all. omega arith;
    }

    pub read_keeps : (ps : List Part) (Kept After : List Value → Type 0) (m n : Moment) → HasRead h rows room ps keep Kept m n → ((vs : List Value) → keep ≡ true → Kept vs → After vs) → HasRead h rows room ps keep After m n
    read_keeps ps Kept After m n x step = record {
      found = from_more n (λ held. HasValues h rows room ps keep held Kept) (λ held. HasValues h rows room ps keep held After)
          (λ held a. record { values = a.values; are = a.are; kept = λ k. step a.values k (a.kept k) }) x.found;
      only = x.only;
      gets = x.gets;
    }

module _ (h : List ℕ → List ℕ) (at : List ℕ) (rows : List Row) (room : ℕ) (keep : Bool) where
  pub read_more : (ps : List Part) (p : Part) (Kept After : List Value → Type 0) (m n o : Moment) (val : Val) → HasRead h rows room ps keep Kept m n → Reads h at rows room p keep n (Ok val) o
      → ((vs : List Value) → keep ≡ true → Kept vs → After (vs ++ value_of val ∷ [])) → HasRead h rows room (ps ++ p ∷ []) keep After m o
  read_more ps p Kept After m n o val x y step = record {
    found = from_both o (λ held. HasValues h rows room ps keep held Kept) (λ held. HasValue h rows room p keep held val) (λ held. HasValues h rows room (ps ++ p ∷ []) keep held After)
        (λ held a b. record {
          values = a.values ++ b.value ∷ [];
          are = are_append h rows room (block_at held) ps a.values p b.value a.are b.is;
          kept = λ k. subst (λ w. After (a.values ++ w ∷ [])) (b.kept k) (step a.values k (a.kept k));
        })
        (from_later n o (λ held. HasValues h rows room ps keep held Kept) y.only x.found) y.answer;
    only = reads_then m n o x.only y.only;
    gets = λ held vs told all.
        let s = are_split h rows room (block_at held) ps (p ∷ []) vs all in
        let f = has_first h rows room (block_at held) p [] s.right s.rest in
        let g = x.gets held s.left told s.first in
        let k = y.gets held f.value (x.only.blocks ∙ told) f.held in
        let a = s.many in
        let b = f.many in
        omega (arith, g, k, a, b);
  }

  pub part_stops : (ps qs : List Part) (p : Part) (Kept : List Value → Type 0) (make : List Value → Value) (m n o : Moment) (e : OpenFault) → HasRead h rows room ps keep Kept m n → Reads h at rows room p keep n (Err e) o
      → ReadsParts h at rows room (ps ++ p ∷ qs) keep make m (Err e) o
  part_stops ps qs p Kept make m n o e x y = record {
    answer = stops_later (NoValue h rows room p n) (NoValues h rows room (ps ++ p ∷ qs) m) (BrokenPart h at rows room p n o) (BrokenParts h at rows room (ps ++ p ∷ qs) m o) m n o e x.only
        (λ none held vs told all.
        let s = are_split h rows room (block_at held) ps (p ∷ qs) vs all in
        let f = has_first h rows room (block_at held) p qs s.right s.rest in
        none held f.value (x.only.blocks ∙ told) f.held)
        (λ id why broken. (p, contains_middle ps qs p, broken_earlier h at rows room p m n o id why x.only broken)) y.answer;
    only = reads_then m n o x.only y.only;
    gets = λ held vs told all.
        let s = are_split h rows room (block_at held) ps (p ∷ qs) vs all in
        let f = has_first h rows room (block_at held) p qs s.right s.rest in
        let g = x.gets held s.left told s.first in
        let k = y.gets held f.value (x.only.blocks ∙ told) f.held in
        let a = s.many in
        let b = f.many in
        omega (arith, g, k, a, b);
  }

  -- memory is wanting behind some parts
  pub parts_memory : (ps qs : List Part) (Kept : List Value → Type 0) (make : List Value → Value) (m n : Moment) → HasRead h rows room ps keep Kept m n → ReadsParts h at rows room (ps ++ qs) keep make m (Err F.Memory) n
  parts_memory ps qs Kept make m n x = record {
    answer = tt;
    only = x.only;
    gets = λ held vs told all.
        let s = are_split h rows room (block_at held) ps qs vs all in
        let g = x.gets held s.left told s.first in
        let a = s.many in
        omega (arith, g, a);
  }

  pub parts_done : (ps : List Part) (Kept : List Value → Type 0) (make : List Value → Value) (m n : Moment) (val : Val) → HasRead h rows room ps keep Kept m n
      → ((vs : List Value) → keep ≡ true → Kept vs → value_of val ≡ make vs) → ReadsParts h at rows room ps keep make m (Ok val) n
  parts_done ps Kept make m n val x step = record {
    answer = from_more n (λ held. HasValues h rows room ps keep held Kept) (λ held. HasValues h rows room ps keep held (λ vs. value_of val ≡ make vs))
        (λ held a. record { values = a.values; are = a.are; kept = λ k. step a.values k (a.kept k) }) x.found;
    only = x.only;
    gets = x.gets;
  }

  -- nothing was read
  pub memory_wants : (p : Part) (m : Moment) → Reads h at rows room p keep m (Err F.Memory) m
  memory_wants p m = record { answer = tt; only = reads_none m; gets = λ held v told has. omega arith }

  pub parts_want : (ps : List Part) (make : List Value → Value) (m : Moment) → ReadsParts h at rows room ps keep make m (Err F.Memory) m
  parts_want ps make m = record { answer = tt; only = reads_none m; gets = λ held vs told all. omega arith }

  -- a value that needs nothing of a store
  pub plain_read : (p : Part) (m : Moment) (val : Val) (v : Value) → ((block : List ℕ → Option (List ℕ)) → IsHeld block h rows room p.0 p.1 v) → (keep ≡ true → value_of val ≡ v) → Reads h at rows room p keep m (Ok val) m
  plain_read p m val v is kept = record {
    answer = from_nothing m (λ held. HasValue h rows room p keep held val) (λ held. record { value = v; is = is (block_at held); kept = kept });
    only = reads_none m;
    gets = λ held w told has. omega arith;
  }

-- the whole of parts
pub whole_answer : (h : List ℕ → List ℕ) (at : List ℕ) (rows : List Row) (room less : ℕ) (keep : Bool) (s : Slot) (t : Data) (ps : List Part) (make : List Value → Value) (m n : Moment) (r : Result Val OpenFault)
    → ((block : List ℕ → Option (List ℕ)) → Splits block h rows room s t less ps make) → AreParts rows room s t less ps → PartsAnswer h at rows less ps keep make m r n → ReadAnswer h at rows room (s, t) keep m r n
whole_answer h at rows room less keep s t ps make m n (Ok val) split are x =
    from_more n (λ held. HasValues h rows less ps keep held (λ vs. value_of val ≡ make vs)) (λ held. HasValue h rows room (s, t) keep held val)
    (λ held a. record { value = make a.values; is = (split (block_at held)).up a.values a.are; kept = a.kept }) x
whole_answer h at rows room less keep s t ps make m n (Err e) split are x =
    stops_later (NoValues h rows less ps m) (NoValue h rows room (s, t) m) (BrokenParts h at rows less ps m n) (BrokenPart h at rows room (s, t) m n) m m n e (reads_none m)
    (λ none held v told has. let b = (split (block_at held)).back v has in none held b.values told b.held) (λ id why broken. whole_broken h at rows room less s t ps m n id why are broken) x

pub whole_read : (h : List ℕ → List ℕ) (at : List ℕ) (rows : List Row) (room less : ℕ) (keep : Bool) (s : Slot) (t : Data) (ps : List Part) (make : List Value → Value) (m n : Moment) (r : Result Val OpenFault)
    → ((block : List ℕ → Option (List ℕ)) → Splits block h rows room s t less ps make) → AreParts rows room s t less ps → ReadsParts h at rows less ps keep make m r n → Reads h at rows room (s, t) keep m r n
whole_read h at rows room less keep s t ps make m n r split are x = record {
  answer = whole_answer h at rows room less keep s t ps make m n r split are x.answer;
  only = x.only;
  gets = λ held v told has.
      let b = (split (block_at held)).back v has in
      let g = x.gets held b.values told b.held in
      let e = b.many in
      omega (arith, g, e);
}

-- a union's member
one_read : (h : List ℕ → List ℕ) (at : List ℕ) (rows : List Row) (room : ℕ) (keep : Bool) (p : Part) (number : ℕ) (m n : Moment) (val whole : Val) → Reads h at rows room p keep m (Ok val) n
    → (keep ≡ true → value_of whole ≡ union number (value_of val)) → ReadsParts h at rows room (p ∷ []) keep (union_of number) m (Ok whole) n
one_read h at rows room keep p number m n val whole x made =
    let none = read_none h rows room keep (λ vs. vs ≡ []) m refl in
    let one = read_more h at rows room keep [] p (λ vs. vs ≡ []) (λ vs. vs ≡ value_of val ∷ []) m m n val none x (λ vs k e. ap (λ ws. ws ++ value_of val ∷ []) e) in
    parts_done h at rows room keep (p ∷ []) (λ vs. vs ≡ value_of val ∷ []) (union_of number) m n whole one (λ vs k e. made k ∙ ap (union_of number) (sym e))

one_stops : (h : List ℕ → List ℕ) (at : List ℕ) (rows : List Row) (room : ℕ) (keep : Bool) (p : Part) (number : ℕ) (m n : Moment) (e : OpenFault) → Reads h at rows room p keep m (Err e) n → ReadsParts h at rows room (p ∷ []) keep (union_of number) m (Err e) n
one_stops h at rows room keep p number m n e x = part_stops h at rows room keep [] [] p (λ vs. Unit {0}) (union_of number) m m n e (read_none h rows room keep (λ vs. Unit {0}) m tt) x

one_wants : (h : List ℕ → List ℕ) (at : List ℕ) (rows : List Row) (room : ℕ) (keep : Bool) (p : Part) (number : ℕ) (m n : Moment) (val : Val) → Reads h at rows room p keep m (Ok val) n → ReadsParts h at rows room (p ∷ []) keep (union_of number) m (Err F.Memory) n
one_wants h at rows room keep p number m n val x =
    let none = read_none h rows room keep (λ vs. Unit {0}) m tt in
    let one = read_more h at rows room keep [] p (λ vs. Unit {0}) (λ vs. Unit {0}) m m n val none x (λ vs k e. tt) in
    parts_memory h at rows room keep (p ∷ []) [] (λ vs. Unit {0}) (union_of number) m n one

-- the member in a slot that is another name of its own
module _ (h : List ℕ → List ℕ) (at : List ℕ) (rows : List Row) (room : ℕ) (keep : Bool) (u slot : Slot) (c : Data) (same : u ≡ slot) (n : ℕ) where
  there : HasFront rows room (u, c) → HasFront rows room (slot, c)
  there front = subst (λ (q : Slot). HasFront rows room (q, c)) same front

  pub member_stops : (before after : Moment) (e : OpenFault) → (HasFront rows room (slot, c) → Reads h at rows room (slot, c) keep before (Err e) after) → HasFront rows room (u, c)
      → ReadsParts h at rows room ((u, c) ∷ []) keep (union_of n) before (Err e) after
  member_stops before after e read front =
      subst (λ (q : Slot). ReadsParts h at rows room ((q, c) ∷ []) keep (union_of n) before (Err e) after) (sym same) (one_stops h at rows room keep (slot, c) n before after e (read (there front)))

  made : (number : ℕ) (before after : Moment) (val : Val) → Reads h at rows room (slot, c) keep before (Ok val) after → (r : Result Val OpenFault) → IfOk r (IsUnionWith keep number val) → IfErr r (λ e. e ≡ F.Memory)
      → ReadsParts h at rows room ((slot, c) ∷ []) keep (union_of number) before r after
  made number before after val read (Ok whole) ok err = one_read h at rows room keep (slot, c) number before after val whole read ok
  made number before after val read (Err e) ok err =
      subst (λ k. ReadsParts h at rows room ((slot, c) ∷ []) keep (union_of number) before (Err k) after) (sym err) (one_wants h at rows room keep (slot, c) number before after val read)

  pub member_read : (number : ℕ) → n ≡ number → (before after : Moment) (val : Val) → (HasFront rows room (slot, c) → Reads h at rows room (slot, c) keep before (Ok val) after) → HasFront rows room (u, c)
      → (r : Result Val OpenFault) → IfOk r (IsUnionWith keep number val) → IfErr r (λ e. e ≡ F.Memory) → ReadsParts h at rows room ((u, c) ∷ []) keep (union_of n) before r after
  member_read number is before after val read front r ok err =
      subst (λ (q : Slot). ReadsParts h at rows room ((q, c) ∷ []) keep (union_of n) before r after) (sym same)
      (subst (λ k. ReadsParts h at rows room ((slot, c) ∷ []) keep (union_of k) before r after) (sym is) (made number before after val (read (there front)) r ok err))
