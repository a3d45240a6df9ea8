-- The rows of a HAMT's root, and the whole that is read of it.
use Rattle.std.proofs.Common.{◌≡◌, ℕ, ◌+◌, ◌≤◌, List, [], ◌∷◌, length, map, Bool, false, Some, refl, sym, ◌∙◌, ap, ap₂, subst, arith}
use Rattle.std.proofs.Math.Logic.{∥∥₁_elim}
use Rattle.std.proofs.Props.{props}
use Rattle.std.specs.Prelude.{Result, Ok, Err}
use Rattle.std.specs.Global.{Vec}
use Rattle.std.specs.List.{AllByRecursion}
use Rattle.ild_data.specs.Data.{Data}
use Rattle.ild_data.specs.Limits.{IsWithin, deepest}
use Rattle.ild_data.specs.Tree.{IsTree}
use Rattle.ild_data.specs.Trie.{TrieSlot}
use Rattle.ild_data.specs.declared.hamt_shape.HamtShape.{HamtShape}
use Rattle.ild_edges.specs.Store.{Moment, block_at}
use Rattle.ild_edges.proofs.Reading.{from_both, from_later, from_more, from_told, reads_none, reads_then}
use Rattle.ild_node_slots.specs.Faults.{IsReadFault}
use Rattle.ild_node_slots.specs.Form.{AreTexts}
use Rattle.ild_node_slots.specs.declared.fault.HamtFault.{HamtFault}
use Rattle.ild_node_slots.specs.declared.fault.HamtFault.TheVariants as H
use Rattle.ild_schema.specs.Slots.{form_of}
use Rattle.ild_schema.specs.ValueSeen.{value_of}
use Rattle.ild_schema.specs.declared.def.MapForm.TheVariants as MF
use Rattle.ild_schema.specs.declared.def.TypeDef.TheVariants as D
use Rattle.ild_schema.specs.declared.number.Slot.{Slot}
use Rattle.ild_schema.specs.declared.number.TypeNo.{TypeNo}
use Rattle.ild_schema.specs.declared.row.Row.{Row}
use Rattle.ild_schema.specs.declared.val.Val.{Val}
use Rattle.ild_typed.specs.Node.{IsRoot}
use Rattle.ild_typed.specs.Pieces.{is_null_there}
use Rattle.ild_typed.specs.Schema.{IsSchema}
use Rattle.ild_typed.proofs.Wholes.{one_within}
use Rattle.ild_bulk_walker.specs.Checked.{GivesRows, StopsWith, Walks, spelled_pair}
use Rattle.ild_bulk_walker.specs.Standing.{IsBroken}
use Rattle.ild_bulk_walker.specs.declared.row.Row.{Row as Listed}
use Rattle.ild_open_held.specs.Entries.{HamtSplits, IsRootOf, KeyFits, beneath}
use Rattle.ild_open_held.specs.Splits.{entry_parts}
use Rattle.ild_open_held.proofs.Hamts.{hamts_split}
use Rattle.ild_open_rows.specs.Rooted.{AreRows}
use Rattle.ild_open_rows.proofs.Given.{entries_are_given}
use Rattle.ild_open_rows.proofs.Rooting.{rows_are_entries}
use Rattle.ild_open_parts.specs.Hamts.{BrokenRows, BrokenTree, EntriesAnswer, ListsRows, NoEntries, NoRoot, ReadsRows, map_made, told_fault}
use Rattle.ild_open_parts.specs.Reads.{BrokenPart, HasValue, HasValues, NoValue, OnlyReads, ReadAnswer, Reads, Stops}
use Rattle.ild_open_parts.specs.declared.fault.OpenFault.{OpenFault}
use Rattle.ild_open_parts.specs.declared.fault.OpenFault.TheVariants as F
use Rattle.ild_open_parts.proofs.Turning.{stops_later}
use Rattle.ild_open_parts.proofs.Wrongly.{rows_broken, tree_broken}

-- ---- the rows

-- a walk gives no other fault
pub walk_reads : (h : List ℕ → List ℕ) (p : HamtShape) (m n : Moment) (e : HamtFault) → ∥ ((slots : List TrieSlot) × StopsWith h p slots m e n) ∥₁ → IsReadFault e
walk_reads h p m n (H.Block id why) some = tt
walk_reads h p m n H.Store some = tt
walk_reads h p m n H.Memory some = tt
walk_reads h p m n H.Exhausted some = ∥∥₁_elim some (hlevel props) (λ w. absurd w.1.0)
walk_reads h p m n (H.Clash id kept new) some = ∥∥₁_elim some (hlevel props) (λ w. absurd w.1.0)
walk_reads h p m n H.Size some = ∥∥₁_elim some (hlevel props) (λ w. absurd w.1.0)
walk_reads h p m n H.NoKey some = ∥∥₁_elim some (hlevel props) (λ w. absurd w.1.0)

module _ (h : List ℕ → List ℕ) (p : HamtShape) (t : Data) (slots : List TrieSlot) (at : List ℕ) (m n : Moment) (tree : IsTree t) (root : IsRoot p slots t) where
  only_walks : (r : Result (Vec Listed) HamtFault) → Walks h p slots at m r n → OnlyReads m n
  only_walks r w = record { later = w.reads.later; blocks = w.reads.blocks; given = w.reads.given; puts = w.reads.puts }

  few_gets : (r : Result (Vec Listed) HamtFault) → Walks h p slots at m r n → (s : Result (Vec Listed) OpenFault) → (held : List (List ℕ)) (fs : List (List ℕ × Data)) → m.blocks ≡ Some held → AreTexts fs
      → IsRootOf (block_at held) h p t fs → n.gets ≤ m.gets + length (beneath h p fs)
  few_gets r w s held fs told texts x = w.reads.gets held (length (beneath h p fs)) told (entries_are_given h p held t slots fs root texts x).nodes

  pub rows_listed : (rows : Vec Listed) → Walks h p slots at m (Ok rows) n → ListsRows h p at t m (Ok rows) n
  rows_listed rows w = record {
    answer = (
      (slots, tree, root, w.stand),
      from_more n (λ held. GivesRows h p held slots rows.items) (λ held. AreRows h p held t rows.items) (λ held gives. rows_are_entries h p held t slots rows.items root tree gives) w.answer,
    );
    only = only_walks (Ok rows) w;
    gets = few_gets (Ok rows) w (Ok rows);
  }

  walk_stops : (e : HamtFault) → StopsWith h p slots m e n → IsBroken h p m.blocks slots at m.lacks n.lacks e → Stops (NoRoot h p t m) (BrokenTree h p at t m n) m (told_fault e) n
  walk_stops (H.Block id why) w broken = (λ held fs told texts x. let g = entries_are_given h p held t slots fs root texts x in w.1 held g.entries told g.gives, (slots, root, broken))
  walk_stops H.Store w broken = w
  walk_stops H.Memory w broken = tt
  walk_stops H.Exhausted w broken = absurd w.0
  walk_stops (H.Clash id kept new) w broken = absurd w.0
  walk_stops H.Size w broken = absurd w.0
  walk_stops H.NoKey w broken = absurd w.0

  pub rows_stop : (e : HamtFault) → Walks h p slots at m (Err e) n → ListsRows h p at t m (Err (told_fault e)) n
  rows_stop e w = record { answer = walk_stops e w.answer w.broken; only = only_walks (Err e) w; gets = few_gets (Err e) w (Err (told_fault e)) }

pub rows_want : (h : List ℕ → List ℕ) (p : HamtShape) (at : List ℕ) (t : Data) (m : Moment) → ListsRows h p at t m (Err F.Memory) m
rows_want h p at t m = record { answer = tt; only = reads_none m; gets = λ held fs told texts x. omega arith }

-- ---- what the rows spell

abbrev first_pair : List (List ℕ × List ℕ) → List ℕ × List ℕ
first_pair [] = ([], [])
first_pair (x ∷ xs) = x

abbrev other_pairs : List (List ℕ × List ℕ) → List (List ℕ × List ℕ)
other_pairs [] = []
other_pairs (x ∷ xs) = xs

one_entry : (e f : List ℕ × Data) → IsWithin e.1 → IsTree f.1 → spelled_pair e ≡ spelled_pair f → e ≡ f
one_entry e f within tree same = ap₂ (λ (k : List ℕ) (d : Data). (k, d)) (ap (λ q. q.0) same) (one_within e.1 f.1 within tree (ap (λ q. q.1) same))

-- rows spell one list of entries
same_entries : (es fs : List (List ℕ × Data)) → AllByRecursion (λ e. IsWithin e.1) es → AllByRecursion (λ e. IsTree e.1) fs → map spelled_pair es ≡ map spelled_pair fs → es ≡ fs
same_entries [] [] within trees same = refl
same_entries [] (f ∷ fs) within trees same = let n = ap (λ (xs : List (List ℕ × List ℕ)). length xs) same in absurd (omega (arith, n))
same_entries (e ∷ es) [] within trees same = let n = ap (λ (xs : List (List ℕ × List ℕ)). length xs) same in absurd (omega (arith, n))
same_entries (e ∷ es) (f ∷ fs) within trees same =
    ap₂ (λ (x : List ℕ × Data) (xs : List (List ℕ × Data)). x ∷ xs) (one_entry e f within.0 trees.0 (ap first_pair same)) (same_entries es fs within.1 trees.1 (ap other_pairs same))

-- ---- the whole

pub key_texts : (rows : List Row) (room : ℕ) (key : TypeNo) (es : List (List ℕ × Data)) → AllByRecursion (KeyFits rows room key) es → AreTexts es
key_texts rows room key [] all = tt
key_texts rows room key (e ∷ es) all = (all.0.0, key_texts rows room key es all.1)

module _ (h : List ℕ → List ℕ) (p : HamtShape) (at : List ℕ) (rows : List Row) (schema : IsSchema rows) (room less : ℕ) (keep : Bool) (s : Slot) (t : Data) (key : TypeNo) (key_at : ℕ) (u : Slot) (place : ℕ)
    (some : is_null_there s t ≡ false) (is : form_of rows s ≡ Some (D.Map key key_at u place (MF.Hamt p))) (left : room ≡ less + 5) (le : room ≤ deepest) where
  abbrev Split : List (List ℕ) → Type 0
  Split held = HamtSplits (block_at held) h p rows room less s t key u

  split : (held : List (List ℕ)) → Split held
  split held = hamts_split (block_at held) h rows schema room less le s t some p key key_at u place is left

  -- the root gives no rows
  pub hamt_stops : (m n : Moment) (e : OpenFault) → ListsRows h p at t m (Err e) n → Reads h at rows room (s, t) keep m (Err e) n
  hamt_stops m n e x = record {
    answer = stops_later (NoRoot h p t m) (NoValue h rows room (s, t) m) (BrokenTree h p at t m n) (BrokenPart h at rows room (s, t) m n) m m n e (reads_none m)
        (λ none held v told has.
        let y = (split held).entries v has in
        let b = (split held).back y.0 v y.1 has in
        none held y.0 told (key_texts rows less key y.0 b.keys) y.1)
        (λ id why broken. tree_broken h p at rows room less s t key key_at u place is left m n id why broken) x.answer;
    only = x.only;
    gets = λ held v told has.
        let y = (split held).entries v has in
        let b = (split held).back y.0 v y.1 has in
        let g = x.gets held y.0 told (key_texts rows less key y.0 b.keys) y.1 in
        let e = b.many in
        omega (arith, g, e);
  }

  module _ (listed : Vec Listed) (m k n : Moment) (x : ListsRows h p at t m (Ok listed) k) where
    abbrev Listing : List (List ℕ) → Type 0
    Listing held = AreRows h p held t listed.items

    abbrev Values : Val → List (List ℕ × Data) → List (List ℕ) → Type 0
    Values val es held = HasValues h rows less (entry_parts u es) keep held (λ vs. value_of val ≡ map_made h rows less keep key u listed.items es vs)

    hamt_answer : (r : Result Val OpenFault) → OnlyReads k n → EntriesAnswer h rows less keep key u listed.items k r n → ReadAnswer h at rows room (s, t) keep m r n
    hamt_answer (Ok val) only y =
        from_both n Listing (Values val y.entries) (λ held. HasValue h rows room (s, t) keep held val)
        (λ held a c.
        let same : a.entries ≡ y.entries = sym (same_entries y.entries a.entries y.within a.trees (y.spelled.made ∙ sym a.made)) in
        record {
          value = map_made h rows less keep key u listed.items y.entries c.values;
          is = (split held).up y.entries c.values (subst (λ fs. IsRootOf (block_at held) h p t fs) same a.root) y.keys c.are;
          kept = c.kept;
        })
        (from_later k n Listing only x.answer.1) y.held
    hamt_answer (Err e) only y = stops_later (NoEntries h rows less keep key u listed.items k) (NoValue h rows room (s, t) m) (BrokenRows h rows less keep key u listed.items k n) (BrokenPart h at rows room (s, t) m n) m k n e x.only
        (λ none held v told has.
        let a = from_told k Listing x.answer.1 held (x.only.blocks ∙ told) in
        let b = (split held).back a.entries v a.root has in
        none a.entries (record { made = a.made; trees = a.trees }) b.keys held b.values (x.only.blocks ∙ told) b.held)
        (λ id why broken. rows_broken h p at rows room less s t key key_at u place is left keep listed.items m k n id why x.only x.answer.0 broken) y

    -- the rows were read, and what they spell
    pub hamt_read : (r : Result Val OpenFault) → ReadsRows h rows less keep key u listed.items k r n → Reads h at rows room (s, t) keep m r n
    hamt_read r y = record {
      answer = hamt_answer r y.only y.answer;
      only = reads_then m k n x.only y.only;
      gets = λ held v told has.
          let a = from_told k Listing x.answer.1 held (x.only.blocks ∙ told) in
          let b = (split held).back a.entries v a.root has in
          let f = x.gets held a.entries told (key_texts rows less key a.entries b.keys) a.root in
          let g = y.gets a.entries (record { made = a.made; trees = a.trees }) held b.values (x.only.blocks ∙ told) b.held in
          let e = b.many in
          omega (arith, f, g, e);
    }
