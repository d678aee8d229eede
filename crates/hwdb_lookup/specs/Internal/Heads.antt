-- What the record of a node says, and its values.
use Rattle.std.specs.Prelude.{List, ℕ, None, Option, ◌+◌, ◌*◌, ◌≤◌, ◌≡◌, length, flat_map}
use Rattle.hwdb_spec.specs.declared.Layout.{Layout}
use Rattle.hwdb_spec.specs.Assignment.{Assignment}
use Rattle.hwdb_spec.specs.Tree.{Value, assigned_at, key_of}
use Rattle.hwdb_spec.specs.Format.{children_count, values_count, prefix_off, record_end, value_entries, IsPlace, ValuesText}
use Rattle.hwdb_reader.specs.Passes.Views.{IsPart}
use Rattle.hwdb_lookup.specs.declared.lazy_node.LazyNode.{LazyNode}
use Rattle.hwdb_lookup.specs.declared.nodes.StoredValue.{StoredValue}

-- the node is what the file's record at its offset says
pub record IsHead (file : List ℕ) (n : LazyNode) : Type 0 where
  pub children : n.children ≡ children_count file n.off
  pub values : n.values ≡ values_count file n.off
  pub prefix : n.prefix ≡ prefix_off file n.off
  pub end : n.end ≡ record_end n.frame.sizes file n.off
  pub part : IsPart file n.off n.bytes.now

-- the record ends before the string section, and its prefix is in that
abbrev pub Fits : Layout → List ℕ → ℕ → Type 0
Fits l file off = (record_end l file off ≤ l.strings) × IsPlace l file (prefix_off file off)

abbrev pub value_of : StoredValue → Value
value_of v = record { priority = v.priority; line = v.line; key = v.key.now; value = v.value.now; path = v.path.now }

-- what values assign at a pattern
abbrev pub own_members : List ℕ → List Value → List Assignment
own_members pattern values = flat_map (λ v. assigned_at pattern v (key_of v.key)) values

-- these are the values of the node in the file
pub record AreValues (file : List ℕ) (n : LazyNode) (values : List Value) : Type 0 where
  pub head : IsHead file n
  pub text : ValuesText n.frame.sizes file (value_entries n.frame.sizes file n.off) None values
  pub count : length values ≡ n.values

-- the values from number i on
pub record ValuesLeft (file : List ℕ) (n : LazyNode) (i : ℕ) : Type 0 where
  pub rest : List Value
  pub before : Option (List ℕ)
  pub text : ValuesText n.frame.sizes file (value_entries n.frame.sizes file n.off + n.frame.sizes.value_size * i) before rest
  pub count : length rest + i ≡ n.values
