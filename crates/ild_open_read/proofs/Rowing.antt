-- Reading the rows of a HAMT, one after another.
use Rattle.std.proofs.Common.{◌≡◌, ℕ, List, [], ◌∷◌, ◌++◌, length, map, Bool, true, Contains, append_assoc, append-nil, refl, sym, ◌∙◌, ap, ap₂, subst, arith, inl, inr}
use Rattle.std.specs.Prelude.{IsUtf8, Result, Ok, Err}
use Rattle.std.specs.List.{AllByRecursion}
use Rattle.std.proofs.lemmas.List.{map-append}
use Rattle.ild_cbor.specs.Block.{IsBlockOf}
use Rattle.ild_cbor.specs.declared.node.Node.{Node}
use Rattle.ild_cbor.specs.declared.why.BlockWhy.{BlockWhy}
use Rattle.ild_cbor.specs.declared.why.Why.{Why}
use Rattle.ild_data.proofs.AllOf.{all_split, all_append}
use Rattle.ild_data.specs.Data.{Data, text}
use Rattle.ild_data.specs.Limits.{IsWithin}
use Rattle.ild_data.specs.Spell.{spell}
use Rattle.ild_data.specs.Tree.{IsTree}
use Rattle.ild_data.specs.declared.id.BlockId.{BlockId}
use Rattle.ild_edges.specs.Store.{Moment, block_at}
use Rattle.ild_schema.specs.Clear.{IsSafe}
use Rattle.ild_schema.specs.Legible.{IsLegible}
use Rattle.ild_schema.specs.Slots.{plainly}
use Rattle.ild_schema.specs.Value as V
use Rattle.ild_schema.specs.Value.{Pairs, Value, pairs_list}
use Rattle.ild_schema.specs.ValueSeen.{value_of}
use Rattle.ild_schema.specs.declared.number.Slot.{Slot}
use Rattle.ild_schema.specs.declared.number.TypeNo.{TypeNo}
use Rattle.ild_schema.specs.declared.row.Row.{Row}
use Rattle.ild_schema.specs.declared.val.Val.{Val}
use Rattle.ild_typed.specs.Fits.{Fits}
use Rattle.ild_typed.specs.Layers.{RepresentsSome}
use Rattle.ild_typed.specs.Schema.{IsSchema}
use Rattle.ild_typed.proofs.Fronting.{values_fronts}
use Rattle.ild_typed.proofs.OneValue.{plain_safe}
use Rattle.ild_typed.proofs.WalkSound.{refused_sound}
use Rattle.ild_bulk_walker.specs.Checked.{row_pair, spelled_pair}
use Rattle.ild_bulk_walker.specs.declared.row.Row.{Row as Listed}
use Rattle.ild_open_held.specs.Entries.{KeyFits}
use Rattle.ild_open_held.specs.Held.{IsHeld}
use Rattle.ild_open_held.specs.Splits.{PartsHaveValues, entry_parts}
use Rattle.ild_open_parts.specs.Broken.{IsWrongPart}
use Rattle.ild_open_parts.specs.Hamts.{AreSpelled, BrokenRows, IsItemOf, IsSpelledRow, IsWrongRow, NoEntries, ReadsRows, RowAnswer}
use Rattle.ild_open_parts.specs.Reads.{BrokenPart, OnlyReads, Reads, ReadsParts, Stops}
use Rattle.ild_open_parts.specs.declared.fault.OpenFault.{OpenFault}
use Rattle.ild_open_parts.specs.declared.fault.OpenFault.TheVariants as F
use Rattle.ild_open_parts.proofs.Breaking.{broken_earlier, rose_later}
use Rattle.ild_open_parts.proofs.Containing.{contains_middle}
use Rattle.ild_open_read.proofs.Going.{Going, going_begins, going_ends, going_full, going_goes, going_met, going_stops, going_wants, make_map, parts_more}
use Rattle.ild_open_parts.proofs.Turning.{are_split, has_first, only_refl, only_trans}
use Rattle.ild_open_parts.proofs.Wrongly.{same_tree}

-- ---- what the rows spell

first_pair : List (List ℕ × List ℕ) → List ℕ × List ℕ
first_pair [] = ([], [])
first_pair (p ∷ ps) = p

other_pairs : List (List ℕ × List ℕ) → List (List ℕ × List ℕ)
other_pairs [] = []
other_pairs (p ∷ ps) = ps

-- the entry of the first row
record NextRow (rest : List (List ℕ × Data)) (row : Listed) (behind : List Listed) : Type 0 where
  first : List ℕ × Data
  others : List (List ℕ × Data)
  is : rest ≡ first ∷ others
  key_is : row.key ≡ first.0
  value_is : row.value ≡ spell first.1
  tree : IsTree first.1
  left : AreSpelled others behind

next_row : (rest : List (List ℕ × Data)) (row : Listed) (behind : List Listed) → AreSpelled rest (row ∷ behind) → NextRow rest row behind
unfolding first_pair other_pairs
next_row [] row behind x = let n = ap (λ (ps : List (List ℕ × List ℕ)). length ps) x.made in absurd (omega (arith, n))
next_row (e ∷ es) row behind x =
    let own : spelled_pair e ≡ row_pair row = ap first_pair x.made in
    record {
      first = e;
      others = es;
      is = refl;
      key_is = sym (ap (λ p. p.0) own);
      value_is = sym (ap (λ p. p.1) own);
      tree = x.trees.0;
      left = record { made = ap other_pairs x.made; trees = x.trees.1 };
    }

none_spelled : (rest : List (List ℕ × Data)) → AreSpelled rest [] → rest ≡ []
none_spelled [] x = refl
none_spelled (e ∷ es) x = let n = ap (λ (ps : List (List ℕ × List ℕ)). length ps) x.made in absurd (omega (arith, n))

pub none_left : (left : List Listed) → length left ≡ 0 → left ≡ []
none_left [] few = refl
none_left (r ∷ rs) few = absurd (omega (arith, few))

-- entries within the limits that rows spell
pub record HasOwnEntries (done : List Listed) : Type 0 where
  pub entries : List (List ℕ × Data)
  pub made : map spelled_pair entries ≡ map row_pair done
  pub within : AllByRecursion (λ e. IsWithin e.1) entries

more_own : (done : List Listed) (row : Listed) (tree : Data) → IsBlockOf row.value tree → HasOwnEntries done → HasOwnEntries (done ++ row ∷ [])
more_own done row tree is x =
    let e : List ℕ × Data = (row.key, tree) in
    record {
      entries = x.entries ++ e ∷ [];
      made = map-append spelled_pair x.entries (e ∷ []) ∙ ap₂ (λ (ps qs : List (List ℕ × List ℕ)). ps ++ qs) x.made (ap (λ (v : List ℕ). (row.key, v) ∷ []) (sym is.spelled)) ∙ sym (map-append row_pair done (row ∷ []));
      within = all_append (λ e. IsWithin e.1) x.entries (e ∷ []) x.within (is.within, tt);
    }

trees_of : (es : List (List ℕ × Data)) → AllByRecursion (λ e. IsWithin e.1) es → AllByRecursion (λ e. IsTree e.1) es
trees_of [] within = tt
trees_of (e ∷ es) within = (within.0.tree, trees_of es within.1)

own_spelled : (listed done : List Listed) → listed ≡ done ++ [] → (x : HasOwnEntries done) → AreSpelled x.entries listed
own_spelled listed done is x = record { made = x.made ∙ ap (λ (rs : List Listed). map row_pair rs) (sym (is ∙ append-nil done)); trees = trees_of x.entries x.within }

module _ (h : List ℕ → List ℕ) (rows : List Row) (room : ℕ) (keep : Bool) (key : TypeNo) (u : Slot) (listed : List Listed) where
  abbrev Meets : List ℕ × Data → Type 0
  Meets e = KeyFits rows room key e

  -- of the entries that the rows spell: those that are left, and what was read of the others
  pub record HasGone (es : List (List ℕ × Data)) (left : List Listed) (pairs : Pairs) (m n : Moment) : Type 0 where
    pub rest : List (List ℕ × Data)
    pub spelled : AreSpelled rest left
    pub going : Going Meets h rows room keep u es rest pairs m n

  pub record Rowing (left : List Listed) (pairs : Pairs) (m n : Moment) : Type 0 where
    pub done : List Listed
    pub is : listed ≡ done ++ left
    pub own : HasOwnEntries done
    pub only : OnlyReads m n
    pub each : (es : List (List ℕ × Data)) → AreSpelled es listed → HasGone es left pairs m n

  pub rowing_begins : (m : Moment) → Rowing listed V.no_pairs m m
  rowing_begins m = record {
    done = [];
    is = refl;
    own = record { entries = []; made = refl; within = tt };
    only = only_refl m;
    each = λ es x. record { rest = es; spelled = x; going = going_begins Meets h rows room keep u es m };
  }

  -- the next row spells data
  pub rowing_spelled : (row : Listed) (behind : List Listed) (pairs : Pairs) (m n : Moment) → Rowing (row ∷ behind) pairs m n → AllByRecursion IsSpelledRow listed → IsSpelledRow row
  rowing_spelled row behind pairs m n x all = (all_split IsSpelledRow x.done (row ∷ behind) (subst (AllByRecursion IsSpelledRow) x.is all)).1.0

  abbrev Answers : Moment → OpenFault → Moment → Type 0
  Answers m e n = ReadsRows h rows room keep key u listed m (Err e) n

  module _ (row : Listed) (behind : List Listed) (pairs : Pairs) (m n o : Moment) (x : Rowing (row ∷ behind) pairs m n) (item : Node) (y : IsItemOf rows room key u row item) where
    next_going : (es : List (List ℕ × Data)) (g : HasGone es (row ∷ behind) pairs m n) (e : NextRow g.rest row behind) → Going Meets h rows room keep u es (e.first ∷ e.others) pairs m n
    next_going es g e = subst (λ r. Going Meets h rows room keep u es r pairs m n) e.is g.going

    next_read : (rest : List (List ℕ × Data)) (e : NextRow rest row behind) (r : Result Val OpenFault) → Reads h row.block.0 rows room (u, y.tree) keep n r o → Reads h row.block.0 rows room (u, e.first.1) keep n r o
    next_read rest e r read = subst (λ d. Reads h row.block.0 rows room (u, d) keep n r o) (same_tree y.tree e.first.1 row.value y.spelled e.value_is e.tree) read

    here : Contains listed row
    here = subst (λ xs. Contains xs row) (sym x.is) (contains_middle x.done behind row)

    pub rowing_goes : (val : Val) (more : Pairs) → Reads h row.block.0 rows room (u, y.tree) keep n (Ok val) o → (keep ≡ true → pairs_list more ≡ pairs_list pairs ++ (row.key, value_of val) ∷ []) → Rowing behind more m o
    rowing_goes val more read added = record {
      done = x.done ++ row ∷ [];
      is = x.is ∙ sym (append_assoc x.done (row ∷ []) behind);
      own = more_own x.done row y.tree y.spelled x.own;
      only = only_trans m n o x.only read.only;
      each = λ es s.
          let g = x.each es s in
          let e = next_row g.rest row behind g.spelled in
          let keyed : Meets e.first = subst (λ k. IsUtf8 k × RepresentsSome (Fits rows room) rows (plainly key) (text k)) e.key_is y.keyed in
          record {
            rest = e.others;
            spelled = e.left;
            going = going_goes Meets h row.block.0 rows room keep u es e.others e.first pairs m n (next_going es g e) o row.key val more e.key_is keyed (next_read g.rest e (Ok val) read) added;
          };
    }

    stopped : (fault : OpenFault) → Reads h row.block.0 rows room (u, y.tree) keep n (Err fault) o → (es : List (List ℕ × Data)) → AreSpelled es listed → ReadsParts h row.block.0 rows room (entry_parts u es) keep (make_map es) m (Err fault) o
    stopped fault read es s =
        let g = x.each es s in
        let e = next_row g.rest row behind g.spelled in
        going_stops Meets h row.block.0 rows room keep u es e.others e.first pairs m n (next_going es g e) o fault (next_read g.rest e (Err fault) read)

    broken : (id : List ℕ) (why : BlockWhy) → BrokenPart h row.block.0 rows room (u, y.tree) n o id why → BrokenRows h rows room keep key u listed m o id why
    broken id why w = (row, here, inr (record { tree = y.tree; spelled = y.spelled; wrong = broken_earlier h row.block.0 rows room (u, y.tree) m n o id why x.only w }))

    stops : (fault : OpenFault) → Reads h row.block.0 rows room (u, y.tree) keep n (Err fault) o → Stops (NoEntries h rows room keep key u listed m) (BrokenRows h rows room keep key u listed m o) m fault o
    stops (F.Block id why) read = (λ es s keys. (stopped (F.Block id why) read es s).answer.0, broken id.0 why read.answer.1)
    stops F.Store read = rose_later m.faults n.faults o.faults x.only.later.faults read.answer
    stops F.Memory read = tt

    pub rowing_stops : (fault : OpenFault) → Reads h row.block.0 rows room (u, y.tree) keep n (Err fault) o → Answers m fault o
    rowing_stops fault read = record { answer = stops fault read; only = only_trans m n o x.only read.only; gets = λ es s. (stopped fault read es s).gets }

    -- the entry was read, and there is no room for it
    pub rowing_wants : (val : Val) → Reads h row.block.0 rows room (u, y.tree) keep n (Ok val) o → Answers m F.Memory o
    rowing_wants val read = record {
      answer = tt;
      only = only_trans m n o x.only read.only;
      gets = λ es s.
          let g = x.each es s in
          let e = next_row g.rest row behind g.spelled in
          (going_wants Meets h row.block.0 rows room keep u es e.others e.first pairs m n (next_going es g e) o val (next_read g.rest e (Ok val) read)).gets;
    }

  -- memory is wanting before the next row
  pub rowing_full : (left : List Listed) (pairs : Pairs) (m n : Moment) → Rowing left pairs m n → Answers m F.Memory n
  rowing_full left pairs m n x = record {
    answer = tt;
    only = x.only;
    gets = λ es s. let g = x.each es s in (going_full Meets h [] rows room keep u es g.rest pairs m n g.going).gets;
  }

  pub rowing_ends : (pairs : Pairs) (m n : Moment) (val : Val) → value_of val ≡ V.map pairs → Rowing [] pairs m n → ReadsRows h rows room keep key u listed m (Ok val) n
  rowing_ends pairs m n val made x =
      let last : (es : List (List ℕ × Data)) → AreSpelled es listed → Going Meets h rows room keep u es [] pairs m n =
      λ es s. let g = x.each es s in subst (λ r. Going Meets h rows room keep u es r pairs m n) (none_spelled g.rest g.spelled) g.going in
      let own : AreSpelled x.own.entries listed = own_spelled listed x.done x.is x.own in
      record {
        answer = record {
          entries = x.own.entries;
          spelled = own;
          within = x.own.within;
          keys = going_met Meets h rows room keep u x.own.entries pairs m n (last x.own.entries own);
          held = (going_ends Meets h [] rows room keep u x.own.entries pairs m n val made (last x.own.entries own)).answer;
        };
        only = x.only;
        gets = λ es s. (going_ends Meets h [] rows room keep u es pairs m n val made (last es s)).gets;
      }

  -- ---- a row that is wrong

  -- of the entry of a row its key fits, and a value is held
  pub record HasOwn (held : List (List ℕ)) (row : Listed) : Type 0 where
    pub tree : Data
    pub is : row.value ≡ spell tree
    pub sound : IsTree tree
    pub keyed : RepresentsSome (Fits rows room) rows (plainly key) (text row.key)
    pub value : Value
    pub own : IsHeld (block_at held) h rows room u tree value

  own_row : (row : Listed) (behind : List Listed) (pairs : Pairs) (m n : Moment) (es : List (List ℕ × Data)) (g : HasGone es (row ∷ behind) pairs m n) → AllByRecursion (KeyFits rows room key) es
      → (held : List (List ℕ)) (vs : List Value) → PartsHaveValues (block_at held) h rows room (entry_parts u es) vs → HasOwn held row
  own_row row behind pairs m n es g keys held vs all =
      let e = next_row g.rest row behind g.spelled in
      let done = g.going.done in
      let is : es ≡ done ++ (e.first ∷ e.others) = g.going.is ∙ ap (λ (r : List (List ℕ × Data)). done ++ r) e.is in
      let k = all_split Meets done (e.first ∷ e.others) (subst (AllByRecursion Meets) is keys) in
      let parts : entry_parts u es ≡ entry_parts u done ++ (u, e.first.1) ∷ entry_parts u e.others = ap (entry_parts u) is ∙ parts_more u done (e.first ∷ e.others) in
      let s = are_split h rows room (block_at held) (entry_parts u done) ((u, e.first.1) ∷ entry_parts u e.others) vs (subst (λ ps. PartsHaveValues (block_at held) h rows room ps vs) parts all) in
      let f = has_first h rows room (block_at held) (u, e.first.1) (entry_parts u e.others) s.right s.rest in
      record {
        tree = e.first.1;
        is = e.value_is;
        sound = e.tree;
        keyed = subst (λ q. RepresentsSome (Fits rows room) rows (plainly key) (text q)) (sym e.key_is) k.1.0.1;
        value = f.value;
        own = f.held;
      }

  module _ (schema : IsSchema rows) (legible : IsLegible rows) (safe : IsSafe rows u) where
    pub never_wrong : (held : List (List ℕ)) (row : Listed) (x : HasOwn held row) (why : Why) → IsWrongPart rows room key u row.key x.tree why → ⊥
    never_wrong held row x why (inl w) = refused_sound rows legible.clear legible.delims room 0 (plainly key) (plain_safe rows (plainly key) refl) (text row.key) w.1.refusal w.1.refused x.keyed
    never_wrong held row x why (inr w) =
        let y = values_fronts h rows schema room u x.value x.tree x.own.fits x.own.tree in
        refused_sound rows legible.clear legible.delims room 0 u safe x.tree w.1.refusal w.1.refused (y.0, y.1.fits, y.1.tree)

    pub rowing_wrong : (row : Listed) (behind : List Listed) (pairs : Pairs) (m n : Moment) (id : BlockId) (why : BlockWhy) → Rowing (row ∷ behind) pairs m n → id ≡ row.block → IsWrongRow rows room key u row why → Answers m (F.Block id why) n
    rowing_wrong row behind pairs m n id why x same w = record {
      answer = (
        λ es s keys held vs told all.
            let own = own_row row behind pairs m n es (x.each es s) keys held vs all in
            never_wrong held row own w.cause (subst (λ d. IsWrongPart rows room key u row.key d w.cause) (same_tree w.tree own.tree row.value w.spelled own.is own.sound) w.wrong),
        (row, subst (λ xs. Contains xs row) (sym x.is) (contains_middle x.done behind row), inl (ap (λ (i : BlockId). i.0) same, w)),
      );
      only = x.only;
      gets = λ es s. let g = x.each es s in (going_full Meets h [] rows room keep u es g.rest pairs m n g.going).gets;
    }

    -- a row that isn't read
    pub rowing_refused : (row : Listed) (behind : List Listed) (pairs : Pairs) (m n : Moment) → Rowing (row ∷ behind) pairs m n → (e : OpenFault) → RowAnswer rows room key u row (Err e) → Answers m e n
    rowing_refused row behind pairs m n x (F.Block id why) w = rowing_wrong row behind pairs m n id why x w.0 w.1
    rowing_refused row behind pairs m n x F.Store w = absurd w
    rowing_refused row behind pairs m n x F.Memory w = rowing_full (row ∷ behind) pairs m n x
