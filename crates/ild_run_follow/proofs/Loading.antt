-- What is told of a part, by its value or by its view.
use Rattle.std.proofs.Common.{◌≡◌, ℕ, ◌+◌, ◌≤◌, List, [], length, true, Option, Some, None, Result, Ok, Err, refl, sym, ap, ◌∙◌, subst, arith}
use Rattle.std.specs.Prelude.{cond, option_map}
use Rattle.std.proofs.Math.Logic.{∥∥₁_elim}
use Rattle.std.proofs.Props.{props}
use Rattle.ild_open_parts.proofs.Turning.{only_refl}
use Rattle.ild_data.specs.Data as D
use Rattle.ild_data.specs.Data.{Data}
use Rattle.ild_data.specs.Seen.{data_of}
use Rattle.ild_data.specs.declared.tree.Tree.{Tree}
use Rattle.ild_edges.proofs.Reading.{from_told}
use Rattle.ild_edges.specs.Gained.{OnlyReads}
use Rattle.ild_edges.specs.Store.{Moment, block_at}
use Rattle.ild_typed_fronts.proofs.Representing.{fronts_represent}
use Rattle.ild_typed_fronts.specs.Front.{front}
use Rattle.ild_open_held_parts.proofs.Holding.{one_is_held}
use Rattle.ild_open_parts.specs.declared.fault.OpenFault.{OpenFault}
use Rattle.ild_open_parts.specs.declared.fault.OpenFault.TheVariants as O
use Rattle.ild_open.specs.Loaded as L
use Rattle.ild_open.specs.Loaded.{IsShallow, IsShown, Loads}
use Rattle.ild_schema.specs.Value.{Value}
use Rattle.ild_schema.specs.ValueSeen.{value_of}
use Rattle.ild_schema.specs.declared.val.Val.{Val}
use Rattle.ild_typed.proofs.Fronting.{values_fronts}
use Rattle.ild_typed.specs.At.{met}
use Rattle.ild_typed.specs.Blocks.{nodes}
use Rattle.ild_typed.specs.Hamt.{alone}
use Rattle.ild_typed.specs.Represented.{represented}
use Rattle.ild_typed.specs.Schema.{IsSchema}
use Rattle.ild_view.specs.View.{IsView, slot_of, table_of}
use Rattle.ild_view.specs.declared.view.View.{View}
use Rattle.ild_run_follow.specs.inside.Faults.{open_fault}
use Rattle.ild_run_follow.specs.Tells.{FailsOnly, ViewHolds, LoadAnswer, LoadsPart, TellAnswer, TellsHere, ToldBy, counts, part_nodes}
use Rattle.ild_run_follow.specs.Told.{is_loaded, told}
use Rattle.ild_run_follow.specs.declared.fault.ReadFault.{ReadFault}
use Rattle.ild_run_follow.specs.declared.fault.ReadFault.TheVariants as F
use Rattle.ild_run_follow.specs.declared.kind.Tell.{Tell}
use Rattle.ild_run_follow.specs.declared.kind.Tell.TheVariants as T
use Rattle.ild_run_follow.proofs.Leading.{memory_fails, same_fails}
use Rattle.ild_view.proofs.Opening.{safe_is}
use Rattle.ild_run_follow.proofs.Standing.{viewed}

abbrev pub loaded_as : Result Val OpenFault → Result Val ReadFault
loaded_as (Ok v) = Ok v
loaded_as (Err e) = Err (open_fault e)

module _ (h : List ℕ → List ℕ) (room : ℕ) (low : room ≤ 96) (view : View) (schema : IsSchema (table_of view)) (at : List ℕ) (m n : Moment) where
  is_shown : (t : Data) (v : Value) → ViewHolds h room view m t v → IsShown room view t
  is_shown t v x = let f = values_fronts h (table_of view) schema room (slot_of view) v t x.value.fits x.value.tree in record { stands = x.stands; front = (f.0, f.1.fits, f.1.tree) }

  load_answer : OnlyReads m n → (t : Data) (v : Value) (x : ViewHolds h room view m t v) (r : Result Val OpenFault) → L.LoadAnswer h room view at m t r n → LoadAnswer v m (loaded_as r) n
  load_answer only t v x (Ok val) a =
      one_is_held (block_at x.held) h (table_of view) schema room low (slot_of view) t (value_of val) v (safe_is (table_of view) (slot_of view) view.safe) (from_told n (λ held. L.IsValueAt h held room view t (value_of val)) a x.held (only.blocks ∙ x.told)) x.value
  load_answer only t v x (Err (O.Block id why)) a = absurd (a.0 x.held v x.told x.value)
  load_answer only t v x (Err O.Store) a = a
  load_answer only t v x (Err O.Memory) a = tt

  load_failed : ∥ IsShallow room view ∥₁ → (r : Result Val OpenFault) → Loads h room view at m r n → FailsOnly m (loaded_as r) n
  load_failed some (Ok val) l = tt
  load_failed some (Err (O.Block id why)) l = tt
  load_failed some (Err O.Store) l = ∥∥₁_elim some (hlevel props) (λ y. l.answer y.tree y.shown)
  load_failed some (Err O.Memory) l = tt

  pub loads : ∥ IsShallow room view ∥₁ → (r : Result Val OpenFault) → Loads h room view at m r n → LoadsPart h room view m (loaded_as r) n
  loads some r l = record {
    answer = λ t v x. load_answer l.only t v x r (l.answer t (is_shown t v x));
    gets = λ t v x. l.gets t x.held v (is_shown t v x) x.told x.value;
    only = l.only;
    failed = load_failed some r l;
  }

module _ (h : List ℕ → List ℕ) (room : ℕ) (view : View) (tell : Tell) (m n : Moment) where
  load_stop : (v : Value) (due : Option Data) (e : ReadFault) → LoadAnswer v m (Err e) n → TellAnswer due m (Err e) n
  load_stop v due F.Path a = absurd a
  load_stop v due (F.Block id why) a = absurd a
  load_stop v due F.Store a = a
  load_stop v due F.Memory a = tt

  load_gets : is_loaded tell ≡ true → (v : Value) → n.gets ≤ m.gets + length (nodes h (table_of view) (slot_of view) v)
      → n.gets ≤ m.gets + (met (table_of view) (counts h (table_of view)) (slot_of view, v) [] + part_nodes h (table_of view) tell (Some (slot_of view, v)))
  load_gets is v own =
      let none : met (table_of view) (counts h (table_of view)) (slot_of view, v) [] ≡ 0 = refl in
      let same : part_nodes h (table_of view) tell (Some (slot_of view, v)) ≡ length (nodes h (table_of view) (slot_of view) v) = ap (λ b. cond b (length (nodes h (table_of view) (slot_of view) v)) 0) is in
      omega (arith, none, same, own)

  -- a value that isn't loaded
  pub tells_unloaded : is_loaded tell ≡ true → (e : ReadFault) → LoadsPart h room view m (Err e) n → TellsHere h room view tell m (Err e) n
  tells_unloaded is e l = record {
    answer = λ t v x. load_stop v (told h (table_of view) tell (Some (slot_of view, v))) e (l.answer t v x);
    gets = λ t v x. load_gets is v (l.gets t v x);
    only = l.only;
    failed = same_fails Val Tree m n e l.failed;
  }

  -- one that is
  pub tells_loaded : is_loaded tell ≡ true → (val : Val) (o : Option Tree) (result : Result Tree ReadFault) → LoadsPart h room view m (Ok val) n → FailsOnly m result n
      → ((due : Option Data) → option_map data_of o ≡ due → TellAnswer due m result n)
      → ToldBy (table_of view) (slot_of view) val tell o → TellsHere h room view tell m result n
  tells_loaded is val o result l fails says by = record {
    answer = λ t v x. says (told h (table_of view) tell (Some (slot_of view, v))) (by h is ∙ ap (λ (w : Value). told h (table_of view) tell (Some (slot_of view, w))) (l.answer t v x));
    gets = λ t v x. load_gets is v (l.gets t v x);
    only = l.only;
    failed = fails;
  }

  pub says_some : (o : Option Tree) (tree : Tree) → o ≡ Some tree → (due : Option Data) → option_map data_of o ≡ due → TellAnswer due m (Ok tree) n
  says_some o tree is due same = sym same ∙ ap (option_map data_of) is

  pub says_none : (o : Option Tree) → o ≡ None → (due : Option Data) → option_map data_of o ≡ due → TellAnswer due m (Err F.Path) n
  says_none o is due same = sym same ∙ ap (option_map data_of) is

  pub says_memory : (e : ReadFault) → e ≡ F.Memory → (due : Option Data) → TellAnswer due m (Err e) n
  says_memory e is due = subst (λ (x : ReadFault). TellAnswer due m (Err x) n) (sym is) tt

  -- where it is told of the value in memory, and memory is wanting
  pub tells_wanting : is_loaded tell ≡ true → (val : Val) (e : ReadFault) → LoadsPart h room view m (Ok val) n → e ≡ F.Memory → TellsHere h room view tell m (Err e) n
  tells_wanting is val e l want = record {
    answer = λ t v x. says_memory e want (told h (table_of view) tell (Some (slot_of view, v)));
    gets = λ t v x. load_gets is v (l.gets t v x);
    only = l.only;
    failed = memory_fails m n e want;
  }

module _ (h : List ℕ → List ℕ) (room : ℕ) (view : View) (m : Moment) where
  no_gets : (tell : Tell) (v : Value) → m.gets ≤ m.gets + (met (table_of view) (counts h (table_of view)) (slot_of view, v) [] + part_nodes h (table_of view) tell (Some (slot_of view, v)))
  no_gets tell v = omega arith

  pub tells_present : (tree : Tree) → data_of tree ≡ D.boolean true → TellsHere h room view T.Presence m (Ok tree) m
  tells_present tree is = record {
    answer = λ t v x. ap Some (sym is);
    gets = λ t v x. no_gets T.Presence v;
    only = only_refl m;
    failed = tt;
  }

  pub tells_rep : IsSchema (table_of view) → (tree : Tree) → ((f : Value) → IsView view f → represented alone (table_of view) (slot_of view) f ≡ Some (data_of tree)) → TellsHere h room view T.Representation m (Ok tree) m
  tells_rep schema tree is = record {
    answer = λ t v x. sym (fronts_represent h (table_of view) (slot_of view) v) ∙ is (front h (table_of view) (slot_of view) v) (viewed h room view m t v schema x);
    gets = λ t v x. no_gets T.Representation v;
    only = only_refl m;
    failed = tt;
  }

  pub tells_no_memory : (tell : Tell) (e : ReadFault) → e ≡ F.Memory → TellsHere h room view tell m (Err e) m
  tells_no_memory tell e is = record {
    answer = λ t v x. says_memory h room view tell m m e is (told h (table_of view) tell (Some (slot_of view, v)));
    gets = λ t v x. no_gets tell v;
    only = only_refl m;
    failed = memory_fails m m e is;
  }
