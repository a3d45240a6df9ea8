-- The slots of a root, and the HAMT whose root it is.
use Rattle.std.proofs.Common.{◌≡◌, ◌⊎◌, inl, inr, ℕ, zero, suc, ◌+◌, ◌-◌, ◌≤◌, true, List, [], ◌∷◌, length, Some, refl, sym, subst, arith}
use Rattle.std.specs.Prelude.{reverse}
use Rattle.std.specs.List.{AllByRecursion}
use Rattle.ild_cbor.specs.declared.why.BlockWhy.{BlockWhy}
use Rattle.ild_data.specs.Data.{Data}
use Rattle.ild_data.specs.Trie.{TrieSlot}
use Rattle.ild_data.specs.TrieShape.{trie_levels}
use Rattle.ild_data.specs.declared.hamt_shape.HamtShape.{HamtShape}
use Rattle.ild_edges.specs.Store.{Moment, block_at}
use Rattle.ild_schema.specs.Clear.{IsSafe}
use Rattle.ild_schema.specs.Slots.{form_of}
use Rattle.ild_schema.specs.Value.{Value}
use Rattle.ild_schema.specs.declared.def.MapForm.TheVariants as MF
use Rattle.ild_schema.specs.declared.def.TypeDef.TheVariants as D
use Rattle.ild_schema.specs.declared.number.Slot.{Slot}
use Rattle.ild_schema.specs.declared.number.TypeNo.{TypeNo}
use Rattle.ild_schema.specs.declared.row.Row.{Row}
use Rattle.ild_typed.specs.Blocks.{nodes}
use Rattle.ild_typed.specs.Node.{IsRoot}
use Rattle.ild_bulk_walker.specs.Gives.{RootGives}
use Rattle.ild_bulk_walker.specs.Reads.{NodesBeneath}
use Rattle.ild_open_held.specs.Entries.{KeyFits}
use Rattle.ild_open_held.specs.Splits.{PartsHaveValues, entry_parts, nodes_in}
use Rattle.ild_open_parts.specs.Broken.{HasBrokenBlock}
use Rattle.ild_open_parts.specs.Reads.{BrokenPart}
use Rattle.ild_open_nodes.specs.inside.Beneath.{BrokenIn, BrokenOn, site}
use Rattle.ild_open_nodes.specs.Nodes.{SlotGiven, SlotOwned}
use Rattle.ild_open_nodes.specs.Sums.{EachOwned, SumsTo}
use Rattle.ild_open_nodes.proofs.Splitting.{EntryAsks, Joined, joined, splits}

module _ (h : List ℕ → List ℕ) (p : HamtShape) (rows : List Row) (room : ℕ) (key : TypeNo) (u : Slot) (slots : List TrieSlot) where
  module _ (held : List (List ℕ)) where
    -- what the entries ask for
    root_asks : IsSafe rows u → (es : List (List ℕ × Data)) (vs : List Value) (i : ℕ) → AllByRecursion (KeyFits rows room key) es → PartsHaveValues (block_at held) h rows room (entry_parts u es) vs
        → SumsTo (λ j. EntryAsks h p rows room key u held []) i es (nodes_in h rows (entry_parts u es) vs)
    root_asks safe [] vs i keys are = tt
    root_asks safe (e ∷ es) [] i keys are = absurd are
    root_asks safe (e ∷ es) (v ∷ vs) i keys are = (
      length (nodes h rows u v),
      nodes_in h rows (entry_parts u es) vs,
      omega arith,
      record { safe = safe; along = refl; keyed = keys.0; value = v; is = are.0; sum = omega arith },
      root_asks safe es vs (i + 1) keys.1 are.1,
    )

    pub root_splits : IsSafe rows u → (es : List (List ℕ × Data)) (vs : List Value) (many : ℕ) → RootGives h p held (trie_levels p - 1) slots es → AllByRecursion (KeyFits rows room key) es → PartsHaveValues (block_at held) h rows room (entry_parts u es) vs
        → NodesBeneath p held slots many → SumsTo (SlotGiven h p rows room key u held []) 0 slots (many + nodes_in h rows (entry_parts u es) vs)
    root_splits safe es vs many gives keys are beneath = splits h p rows room key u held [] 0 slots es (nodes_in h rows (entry_parts u es) vs) many gives (root_asks safe es vs 0 keys are) beneath

    pub root_joined : EachOwned (SlotOwned h p rows room key u held []) slots → Joined h p rows room key u held [] 0 slots
    root_joined all = joined h p rows room key u held [] 0 slots (λ i s is. subst (λ j. SlotOwned h p rows room key u held [] j s) (omega arith) (all.at i s is))

  -- ---- what is wrong in it is wrong in the data whose root it is

  module _ (at : List ℕ) (whole : ℕ) (s : Slot) (t : Data) (key_at place : ℕ) (form : form_of rows s ≡ Some (D.Map key key_at u place (MF.Hamt p))) (more : whole ≡ room + 5) (root : IsRoot p slots t) where
    root_wrong : (m n : Moment) (id : List ℕ) (why : BlockWhy) → BrokenOn h rows (site h p rows room key u at slots) m n id why → BrokenPart h at rows whole (s, t) m n id why
    root_wrong m n id why (inl w) = record {
      deep = 1;
      wrong = record { steps = zero; site = site h p rows room key u at slots; has = record { key_at = key_at; at = place; form = form; root = root; left = more }; here = refl; wrong = inl w };
    }
    root_wrong m n id why (inr (inl w)) = record {
      deep = 1;
      wrong = record { steps = zero; site = site h p rows room key u at slots; has = record { key_at = key_at; at = place; form = form; root = root; left = more }; here = refl; wrong = inr (inl w) };
    }
    root_wrong m n id why (inr (inr w)) = record {
      deep = suc w.wrong.deep;
      wrong = record {
        steps = zero;
        site = site h p rows room key u at slots;
        has = record { key_at = key_at; at = place; form = form; root = root; left = more };
        here = refl;
        wrong = inr (inr (record { block = w.block; key = w.key; value = w.value; entry = w.entry; wrong = w.wrong.wrong }));
      };
    }

    pub root_broken : (m n : Moment) (id : List ℕ) (why : BlockWhy) → BrokenIn h p rows room key u [] at slots m n id why → BrokenPart h at rows whole (s, t) m n id why
    root_broken m n id why w = root_wrong m n id why (w.each slots at (record { up = []; way_is = refl; on = refl; node = refl }))
