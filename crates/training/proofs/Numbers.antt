-- The small states and the answers at the edges of specs/Numbers, by computation. Assumes nothing.
use mathlib.Core.Path.{refl}
use Rattle.lists.specs.Search.{lowest, count}
use Rattle.blocks.specs.Tests.{load, clearᵇ}
use Rattle.blocks.specs.Loop.{top}
use Rattle.blocks.specs.Question.{asks_room}
use Rattle.counts.specs.Ways.{ways}
use Rattle.generator.specs.Shifts.{xor_left, xor_right, next_seed}
use Rattle.training.specs.Arrangement.{nth, other_topᵇ, picked, next, finish, arrangement}
use Rattle.training.specs.Training.{asks_few, asks_number, asks_seed, questions, train_answer, train_space, drawn_number, draw_answer, draw_space, draw_seed}
use Rattle.training.specs.Numbers.{Numbers, Edges}

pub numbers_hold : Numbers
unfolding lowest count load clearᵇ top ways nth other_topᵇ picked next finish arrangement
numbers_hold = record {
  of_none = refl;
  of_one = refl;
  of_two = refl;
  of_three = refl;
  of_four = refl;
  last_of_five = (refl, refl);
  counted = (refl, refl);
}

pub edges_hold : Edges
unfolding lowest count load clearᵇ top ways nth other_topᵇ picked next finish arrangement xor_left xor_right next_seed asks_room asks_few asks_number asks_seed
    questions train_answer train_space drawn_number draw_answer draw_space draw_seed
edges_hold = record {
  train_14 = (refl, refl);
  train_15 = (refl, refl);
  train_10 = (refl, refl);
  draw_14 = (refl, refl, refl);
  draw_15 = (refl, refl, refl);
  draw_10 = (refl, refl, refl);
  train_most = (refl, refl);
  draw_most = refl;
  train_last = (refl, refl);
  train_none = (refl, refl);
  train_none_15 = refl;
  draw_five = (refl, refl);
  draw_ten = (refl, refl);
  draw_none = (refl, refl, refl);
}
