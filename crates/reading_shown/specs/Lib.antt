pub mod LastFed
