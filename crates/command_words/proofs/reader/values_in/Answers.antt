use Rattle.std.proofs.Common.{◌∙◌, codes}
use Rattle.clap.specs.Matches.{found_of}
use Rattle.clap.proofs.WalkLemmas.{first_value-rows}
use Rattle.command_words.proofs.reader.values_in.Goals as goal

pub returns : goal.returns
returns c =
    let found = found_of c.args.matches.now in
    λ i. record {
      coords = (c.get_str.ensures ∙ first_value-rows found (codes "coords")) i;
      order = (c.get_str-2.ensures ∙ first_value-rows found (codes "order")) i;
      max_entry = (c.get_str-3.ensures ∙ first_value-rows found (codes "max-entry")) i;
      seed = (c.get_str-4.ensures ∙ first_value-rows found (codes "seed")) i;
      moves = (c.get_str-5.ensures ∙ first_value-rows found (codes "moves")) i;
    }
