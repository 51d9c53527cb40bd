pub mod OnWay
