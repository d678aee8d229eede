-- What the types of this crate mean.
use Rattle.std.specs.Prelude.{map}
use Rattle.hwdb_spec_commands.specs.DeviceTree.{Node}
use Rattle.hwdb_spec_commands.specs.Sysfs.{Ancestor, Attribute, Device}
use Rattle.hwdb_sysfs.specs.declared.device.Ancestor.{Ancestor as Read}
use Rattle.hwdb_sysfs.specs.declared.device.Attribute.{Attribute as ReadAttribute}
use Rattle.hwdb_sysfs.specs.declared.device.Device.{Device as ReadDevice}
use Rattle.hwdb_sysfs.specs.declared.files.DeviceNode.{DeviceNode as FoundNode}

-- an attribute
abbrev pub attribute_of : ReadAttribute → Attribute
attribute_of a = record { name = a.name.items; value = a.value.items }

-- a device or a parent
abbrev pub ancestor_of : Read → Ancestor
ancestor_of a = record {
  path = a.path.items;
  name = a.name.items;
  subsystem = a.subsystem.items;
  driver = a.driver.items;
  uevent = a.uevent.items;
  attributes = map attribute_of a.attributes.items;
}

-- a device with its parents
abbrev pub device_of : ReadDevice → Device
device_of d = record { chain = map ancestor_of d.chain.items; machine = d.machine.items }

-- a device's node
abbrev pub node_of : FoundNode → Node
node_of n = record { block = n.block; number = n.number }
