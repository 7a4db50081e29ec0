-- The items of a container, one by one.
use Rattle.std.specs.Prelude.{ℕ, List, Some, None, Option}
use Rattle.tlv.specs.Walk.{entries_left, walked}
use Rattle.tlv_shortest.specs.declared.level.Level.{Level}
use Rattle.tlv_shortest.specs.declared.level.Item.{Item}
use Rattle.tlv_shortest.specs.declared.level.Item.TheVariants.{Plain, Holder}
use Rattle.tlv_shortest.specs.Items.{Items, none, plain, holder, items_from, encoded_all}

-- the items that are still to come
abbrev pub items_left : Level → Items
items_left l = items_from l.depth (walked l.entries) (entries_left l.entries)

-- their bytes in shortest form
abbrev pub form_of : Level → List ℕ
form_of l = encoded_all (items_left l)

-- What a step gives is the first of the items that were to come; none is given where none was.
abbrev pub with_item : Option Item → Items → Items
with_item None rest = none
with_item (Some (Plain tag v)) rest = plain tag.kind tag.id v.now rest
with_item (Some (Holder tag l)) rest = holder tag.kind tag.id (items_left l) rest
