-- The entries beneath a node, slot by slot: those of all slots, and what each of them asks for.
use Rattle.std.proofs.Common.{◌≡◌, ℕ, suc, ◌+◌, ◌-◌, ◌≤◌, ◌==◌, true, List, [], ◌∷◌, ◌++◌, length, Some, refl, subst, arith}
use Rattle.std.specs.Prelude.{slice_get}
use Rattle.std.specs.List.{AllByRecursion}
use Rattle.std.proofs.lemmas.Bool.{and_from, and_parts, eq-eqb, eqb-true}
use Rattle.ild_data.proofs.AllOf.{all_append}
use Rattle.ild_data.specs.Data.{Data}
use Rattle.ild_data.specs.Trie.{TrieSlot, at_depth}
use Rattle.ild_data.specs.TrieShape.{index, trie_levels}
use Rattle.ild_data.specs.declared.hamt_shape.HamtShape.{HamtShape}
use Rattle.ild_edges.specs.Store.{block_at}
use Rattle.ild_schema.specs.Clear.{IsSafe}
use Rattle.ild_schema.specs.Value.{Value}
use Rattle.ild_schema.specs.declared.number.Slot.{Slot}
use Rattle.ild_schema.specs.declared.number.TypeNo.{TypeNo}
use Rattle.ild_schema.specs.declared.row.Row.{Row}
use Rattle.ild_typed.specs.Blocks.{nodes}
use Rattle.ild_bulk_walker.specs.Gives.{AtIndex, SlotsGive, TreeGives}
use Rattle.ild_bulk_walker.specs.Reads.{SlotsNodes, TreeNodes}
use Rattle.ild_bulk_walker.specs.Todo.{agrees}
use Rattle.ild_open_held.specs.Entries.{KeyFits}
use Rattle.ild_open_held.specs.Held.{IsHeld}
use Rattle.ild_open_nodes.specs.Nodes.{EntryGiven, EntryOwned, SlotGiven, SlotOwned}
use Rattle.ild_open_nodes.specs.Sums.{SumsTo}

-- ---- sums

pub sums_more : {A : Type 0} (Asks : ℕ → A → ℕ → Type 0) (i : ℕ) (xs : List A) (a b : ℕ) → a ≤ b → SumsTo Asks i xs a → SumsTo Asks i xs b
sums_more Asks i [] a b le s = tt
sums_more Asks i (x ∷ xs) a b le s = let sum = s.2 in (s.0, s.1, omega (arith, le, sum), s.3, s.4)

-- those of the first part of a list, and those of the rest
pub record SumsSplit {A : Type 0} (Asks : A → ℕ → Type 0) (xs ys : List A) (cost : ℕ) : Type 0 where
  pub own : ℕ
  pub more : ℕ
  pub sum : own + more ≤ cost
  pub first : SumsTo (λ i. Asks) 0 xs own
  pub rest : SumsTo (λ i. Asks) 0 ys more

sums_at : {A : Type 0} (Asks : A → ℕ → Type 0) (i k : ℕ) (xs : List A) (cost : ℕ) → SumsTo (λ j. Asks) i xs cost → SumsTo (λ j. Asks) k xs cost
sums_at Asks i k [] cost s = tt
sums_at Asks i k (x ∷ xs) cost s = (s.0, s.1, s.2, s.3, sums_at Asks (i + 1) (k + 1) xs s.1 s.4)

pub sums_split : {A : Type 0} (Asks : A → ℕ → Type 0) (xs ys : List A) (cost : ℕ) → SumsTo (λ i. Asks) 0 (xs ++ ys) cost → SumsSplit Asks xs ys cost
sums_split Asks [] ys cost s = record { own = 0; more = cost; sum = omega arith; first = tt; rest = s }
sums_split Asks (x ∷ xs) ys cost s =
    let r = sums_split Asks xs ys s.1 (sums_at Asks 1 0 (xs ++ ys) s.1 s.4) in
    let one = s.2 in
    let two = r.sum in
    record { own = s.0 + r.own; more = r.more; sum = omega (arith, one, two); first = (s.0, r.own, omega arith, s.3, sums_at Asks 0 1 xs r.own r.first); rest = r.rest }

sums_as : {A : Type 0} (Asks Asked : A → ℕ → Type 0) (P : A → Type 0) (xs : List A) (i cost : ℕ) → ((x : A) (a : ℕ) → P x → Asks x a → Asked x a) → AllByRecursion P xs → SumsTo (λ j. Asks) i xs cost → SumsTo (λ j. Asked) i xs cost
sums_as Asks Asked P [] i cost step all s = tt
sums_as Asks Asked P (x ∷ xs) i cost step all s = (s.0, s.1, s.2, step x s.0 all.0 s.3, sums_as Asks Asked P xs (i + 1) s.1 step all.1 s.4)

pub sums_each : {A : Type 0} (Asks Asked : A → ℕ → Type 0) (xs : List A) (i cost : ℕ) → ((x : A) (a : ℕ) → Asks x a → Asked x a) → SumsTo (λ j. Asks) i xs cost → SumsTo (λ j. Asked) i xs cost
sums_each Asks Asked [] i cost step s = tt
sums_each Asks Asked (x ∷ xs) i cost step s = (s.0, s.1, s.2, step x s.0 s.3, sums_each Asks Asked xs (i + 1) s.1 step s.4)

pub all_each : {A : Type 0} (P Q : A → Type 0) (xs : List A) → ((x : A) → P x → Q x) → AllByRecursion P xs → AllByRecursion Q xs
all_each P Q [] step all = tt
all_each P Q (x ∷ xs) step all = (step x all.0, all_each P Q xs step all.1)

module _ (h : List ℕ → List ℕ) (p : HamtShape) (rows : List Row) (room : ℕ) (key : TypeNo) (u : Slot) (held : List (List ℕ)) (way : List ℕ) where
  -- an entry beneath a node has the indices of its way; its key fits, and a value of it is held
  pub record EntryAlong (e : List ℕ × Data) : Type 0 where
    pub along : agrees p (h e.0) 0 way ≡ true
    pub keyed : KeyFits rows room key e
    pub value : Value
    pub is : IsHeld (block_at held) h rows room u e.1 value

  pub record EntryAsks (e : List ℕ × Data) (cost : ℕ) : Type 0 where
    pub safe : IsSafe rows u
    pub along : agrees p (h e.0) 0 way ≡ true
    pub keyed : KeyFits rows room key e
    pub value : Value
    pub is : IsHeld (block_at held) h rows room u e.1 value
    pub sum : length (nodes h rows u value) ≤ cost

  abbrev below : List ℕ → List (List ℕ × Data) → Type 0
  below = TreeGives h p held (trie_levels p - suc (length way)) (suc (length way))

  -- ---- the entries of all slots

  pub record Joined (j : ℕ) (slots : List TrieSlot) : Type 0 where
    pub entries : List (List ℕ × Data)
    pub gives : SlotsGive h p (length way) j (TreeGives h p held (trie_levels p - suc (length way)) (suc (length way))) slots entries
    pub each : AllByRecursion EntryAlong entries

  index_of : (j : ℕ) (es : List (List ℕ × Data)) → AllByRecursion (EntryOwned h p rows room key u held way j) es → AtIndex h p (length way) j es
  index_of j [] all = tt
  index_of j (e ∷ es) all = (eqb-true (index p (h e.0) (length way)) j (and_parts (agrees p (h e.0) 0 way) (index p (h e.0) (length way) == j) all.0.place).1, index_of j es all.1)

  along_of : (j : ℕ) (e : List ℕ × Data) → EntryOwned h p rows room key u held way j e → EntryAlong e
  along_of j e x = record { along = (and_parts (agrees p (h e.0) 0 way) (index p (h e.0) (length way) == j) x.place).0; keyed = x.keyed; value = x.value; is = x.is }

  pub joined : (j : ℕ) (slots : List TrieSlot) → ((i : ℕ) (s : TrieSlot) → slice_get slots i ≡ Some s → SlotOwned h p rows room key u held way (j + i) s) → Joined j slots
  joined j [] each = record { entries = []; gives = refl; each = tt }
  joined j (s ∷ slots) each =
      let own : SlotOwned h p rows room key u held way j s = subst (λ n. SlotOwned h p rows room key u held way n s) (omega arith) (each 0 s refl) in
      let r = joined (j + 1) slots (λ i t is. subst (λ n. SlotOwned h p rows room key u held way n t) (omega arith) (each (suc i) t is)) in
      record {
        entries = own.entries ++ r.entries;
        gives = (own.entries, r.entries, refl, index_of j own.entries own.each, own.gives, r.gives);
        each = all_append EntryAlong own.entries r.entries (all_each (EntryOwned h p rows room key u held way j) EntryAlong own.entries (along_of j) own.each) r.each;
      }

  -- ---- what each slot asks for

  at_place : (j : ℕ) (e : List ℕ × Data) (cost : ℕ) → at_depth h p (length way) e.0 ≡ j → EntryAsks e cost → EntryGiven h p rows room key u held way j e cost
  at_place j e cost at x = record {
    safe = x.safe;
    place = and_from (agrees p (h e.0) 0 way) (index p (h e.0) (length way) == j) x.along (eq-eqb (index p (h e.0) (length way)) j at);
    keyed = x.keyed;
    value = x.value;
    is = x.is;
    sum = x.sum;
  }

  pub splits : (j : ℕ) (slots : List TrieSlot) (es : List (List ℕ × Data)) (spent many : ℕ) → SlotsGive h p (length way) j (TreeGives h p held (trie_levels p - suc (length way)) (suc (length way))) slots es
      → SumsTo (λ i. EntryAsks) 0 es spent → SlotsNodes (TreeNodes p held (trie_levels p - suc (length way))) slots many → SumsTo (SlotGiven h p rows room key u held way) j slots (many + spent)
  splits j [] es spent many gives sums nodes = tt
  splits j (s ∷ slots) es spent many gives sums nodes =
      let here : List (List ℕ × Data) = gives.0 in
      let more : List (List ℕ × Data) = gives.1 in
      let q = sums_split EntryAsks here more spent (subst (λ xs. SumsTo (λ i. EntryAsks) 0 xs spent) gives.2 sums) in
      let sum = q.sum in
      let all = nodes.2 in (
        nodes.0 + q.own,
        nodes.1 + q.more,
        omega (arith, sum, all),
        record {
          entries = here;
          gives = gives.4;
          spent = q.own;
          each = sums_as EntryAsks (EntryGiven h p rows room key u held way j) (λ e. at_depth h p (length way) e.0 ≡ j) here 0 q.own (λ e a at x. at_place j e a at x) gives.3 q.first;
          beneath = nodes.0;
          nodes = nodes.3;
          sum = omega arith;
        },
        splits (j + 1) slots more q.more nodes.1 gives.5 q.rest nodes.4,
      )
