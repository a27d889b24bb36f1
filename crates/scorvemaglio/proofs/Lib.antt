mod Laws
mod Phases
mod ReadBack
mod Unique
mod UniqueOthers
