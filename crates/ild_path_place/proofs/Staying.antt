-- Places over a store that grows.
use Rattle.std.proofs.Common.{◌≡◌, ℕ, List, Option, Some, None}
use Rattle.ild_data.specs.Data.{Data}
use Rattle.ild_data.specs.TrieShape.{trie_levels}
use Rattle.ild_data.specs.declared.hamt_shape.HamtShape.{HamtShape}
use Rattle.ild_edges.specs.Store.{Keeps}
use Rattle.ild_hamt.proofs.Holding.{holds-later}
use Rattle.ild_hamt.specs.declared.trail.Trail.{Trail}
use Rattle.ild_path_enter.specs.Enters.{EntryThere}
use Rattle.ild_path_entry.specs.declared.entry.Entry.{Entry}
use Rattle.ild_path_held.proofs.Holding.{held_stays}
use Rattle.ild_path_held.specs.Hamts.{IsTrieIn}
use Rattle.ild_path_hops.proofs.Hopping.{hops_stay}
use Rattle.ild_path_inward.specs.Levels.{CanGo}
use Rattle.ild_path_place.specs.Places.{EndsAt, IsAtKey, IsPlace}
use Rattle.ild_path_place.specs.Rooted.{IsRootedAt}
use Rattle.ild_path_place.specs.Tells.{root_at}
use Rattle.ild_path_place.specs.declared.place.End.{End}
use Rattle.ild_path_place.specs.declared.place.End.TheVariants as D
use Rattle.ild_path_place.specs.declared.place.Place.{Place}
use Rattle.ild_path_place.specs.declared.verb.Verb.{Verb}
use Rattle.ild_schema.specs.Value.{Pairs, Value}
use Rattle.ild_schema.specs.declared.number.Slot.{Slot}
use Rattle.ild_schema.specs.declared.row.Row.{Row}
use Rattle.ild_typed.specs.At.{InSlot}

module _ (h : List ℕ → List ℕ) (rows : List Row) (was now : List (List ℕ)) (keeps : Keeps was now) where
  trie_stays : (p : HamtShape) (elem : Slot) (ps : Pairs) (t : Data) (es : List (List ℕ × Data)) → IsTrieIn h p rows was elem ps t es → IsTrieIn h p rows now elem ps t es
  trie_stays p elem ps t es x = record {
    pairs = x.pairs;
    represents = x.represents;
    rises = x.rises;
    order = x.order;
    texts = x.texts;
    node = x.node;
    is_node = x.is_node;
    root = x.root;
    holds = holds-later h p was now (trie_levels p) 0 es keeps x.holds;
    found = x.found;
  }

  entry_stays : (elem : Slot) (room : ℕ) (v : Option Value) (e : Option Entry) → EntryThere h rows was elem room v e → EntryThere h rows now elem room v e
  entry_stays elem room None None x = tt
  entry_stays elem room (Some w) (Some e) x = record { tree = x.tree; held = held_stays h rows was now room elem x.tree w keeps x.held; entry = x.entry }
  entry_stays elem room None (Some e) x = absurd x
  entry_stays elem room (Some w) None x = absurd x

  key_stays : (room : ℕ) (q : InSlot) (front : List (List ℕ)) (trail : Trail) (entry : Option Entry) → IsAtKey h rows was room q front trail entry → IsAtKey h rows now room q front trail entry
  key_stays room q front trail entry x = record {
    slot = x.slot;
    elem = x.elem;
    ps = x.ps;
    es = x.es;
    root = x.root;
    less = x.less;
    entered = x.entered;
    left = x.left;
    data_is = x.data_is;
    trie = trie_stays x.entered.hamt.3 x.elem x.ps x.root x.es x.trie;
    utf8 = x.utf8;
    found = x.found;
    there = entry_stays x.elem x.less _ entry x.there;
  }

  ends_stay : (room : ℕ) (q : InSlot) (rest : List (List ℕ)) (end : End) → EndsAt h rows was room q rest end → EndsAt h rows now room q rest end
  ends_stay room q rest D.Whole x = x
  ends_stay room q rest (D.InBlock path) x = x
  ends_stay room q rest (D.AtKey front trail entry) x = (key_stays room q front trail entry x.0, x.1)

  pub place_stays : (p : InSlot) (path : List (List ℕ)) (verb : Verb) (place : Place) → IsPlace h rows was p path verb place → IsPlace h rows now p path verb place
  place_stays p path verb place x = record {
    verb_is = x.verb_is;
    allowed = x.allowed;
    may_go = x.may_go;
    inner = x.inner;
    less = x.less;
    hops_are = hops_stay h rows was now 96 x.less p x.inner place.hops.items keeps x.hops_are;
    rest = x.rest;
    split = x.split;
    ends = ends_stay x.less x.inner x.rest place.end x.ends;
    top = x.top;
    slot_is = x.slot_is;
    key = x.key;
    room_is = x.room_is;
    hole_is = x.hole_is;
  }

  pub root_stays : (p : InSlot) (place : Place) → IsRootedAt h rows was p place → IsRootedAt h rows now p place
  root_stays p place x = record {
    tree = x.tree;
    goes = record { schema = x.goes.schema; low = x.goes.low; held = held_stays h rows was now 96 p.0 x.tree p.1 keeps x.goes.held; stands = x.goes.stands };
    whole = x.whole;
  }
