use Rattle.std.proofs.Common.{◌≡◌, ◌++◌, ◌∷◌, Option, IfSome, map, subst, sym}
use Rattle.hwdb_reader.specs.Unread.{file_of, text_of}
use Rattle.hwdb_reader.specs.declared.unread.StoredText.{StoredText}
use Rattle.hwdb_spec_commands.specs.Summary.{different}
use Rattle.hwdb_databases.specs.Internal.Counting.{last_file}
use Rattle.hwdb_databases.proofs.InventoryLemmas.{last_again}
use Rattle.hwdb_databases.proofs.inventory.Inventory.add_file.Goals as goal

pub is_at-requires : goal.is_at-requires
is_at-requires c = subst (λ (o : Option StoredText). IfSome o (λ t. file_of t ≡ file_of c.args.path)) c.in-Some.is c.requires

pub returns-then-is_at-clause-files : goal.returns-then-is_at-clause-files
returns-then-is_at-clause-files c rest =
    let before = map (λ t. t.now) c.args.self.now.files.items in
    let path = text_of c.args.path in
    subst (λ (o : Option StoredText). different ((before ++ last_file o) ++ rest) ≡ different ((before ++ last_file o) ++ path ∷ rest)) (sym c.in-Some.is)
    (last_again before (text_of c.in-Some.last) path rest (sym (c.is_at.ensures c.if-is_at.true)))
