use Rattle.std.proofs.Common.{◌≡◌, ◌≤◌, All, Global, String, drop, map, length, take, string_bytes}
use Rattle.hwdb_spec.specs.Texts.{max_file}
use Rattle.hwdb_plan.specs.Lemmas.Files.{AreRead}
use Rattle.hwdb_tool.specs.Internal.{AreTextsGiven, AreWords}
use Rattle.hwdb_spec_commands.specs.Reasons.{IsReadGiven}
use Rattle.hwdb_tool.proofs.check_command.read_given.Given as goal

abbrev pub invariant-loop-path : goal.invariant-loop-path
invariant-loop-path g l = record {
  count : length l.texts.items ≡ l.path-index;
  among : AreWords l.left l.words;
  told : g.D.Store.tells → AreRead (g.D.System.reads l.system) (map string_bytes l.words) l.text (map string_bytes l.given)
      (map string_bytes (drop l.path-index l.given)) (map string_bytes (take l.path-index l.given)) (map (λ t. t.items) l.texts.items);
  read : g.D.Store.tells → AreTextsGiven l.text (g.D.Store.seen l.system) (map string_bytes (take l.path-index l.given)) (map (λ t. t.items) l.texts.items);
  files : g.D.Store.tells → All (λ (s : String Global). IsReadGiven (g.D.Store.seen l.system) (string_bytes s)) (take l.path-index l.given);
  within : length l.text ≤ max_file → All (λ t. length t.items ≤ max_file) l.texts.items;
}
