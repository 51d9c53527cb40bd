-- Steps of linear arithmetic that take each product as one unknown.
use borrow.Author.Differences.{sum_is_lem, neg_is, same_in, same_out, lt_out, le_out, below_in, at_most_in, Apart-out}

pub ruleset linear = (same_out, Apart-out, lt_out, le_out, same_in, below_in, at_most_in, sum_is_lem, neg_is)
