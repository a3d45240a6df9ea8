-- The trees: data whose integers are in range, whose texts are UTF-8, whose byte strings are bytes, whose keys rise
-- strictly and whose links are CIDs in bytes.
use Rattle.std.specs.Prelude.{IsUtf8}
use Rattle.ild_data.specs.Data.{Data, null, boolean, integer, text, bytes, list, map, link, Items, no_items, item, Members, no_members, member, members_list}
use Rattle.ild_data.specs.Key.{IsBelow}
use Rattle.ild_data.specs.Integer.{IsInt}
use Rattle.ild_data.specs.Bytes.{AreBytes}
use Rattle.ild_data.specs.Cid.{IsCid}

abbrev mutual
  pub IsTree : Data → Type 0
  IsTree null = Unit {0}
  IsTree (boolean b) = Unit {0}
  IsTree (integer n) = IsInt n
  IsTree (text s) = IsUtf8 s
  IsTree (bytes s) = AreBytes s
  IsTree (list ds) = AreTrees ds
  IsTree (map ms) = AreEntries ms
  IsTree (link s) = IsCid s × AreBytes s

  pub AreTrees : Items → Type 0
  AreTrees no_items = Unit {0}
  AreTrees (item d ds) = IsTree d × AreTrees ds

  pub AreEntries : Members → Type 0
  AreEntries no_members = Unit {0}
  AreEntries (member k d ms) = IsUtf8 k × IsTree d × IsBelow k (members_list ms) × AreEntries ms
